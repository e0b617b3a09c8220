use Rattle.std.proofs.Common.{arith}
use Rattle.mrpdu_codec.proofs.NumberLemmas.{read_back, bytes_length, two_bytes}
use Rattle.mrpdu_codec.proofs.laws.numbers_are_read_back.Goals as goal

pub returns-clause-read : goal.returns-clause-read
returns-clause-read c = λ n number fits. read_back n number fits

pub returns-clause-length : goal.returns-clause-length
returns-clause-length c = λ n number. bytes_length n number

pub returns-clause-pair : goal.returns-clause-pair
returns-clause-pair c = λ high low. omega arith

pub returns-clause-two : goal.returns-clause-two
returns-clause-two c = λ number fits. two_bytes number fits
