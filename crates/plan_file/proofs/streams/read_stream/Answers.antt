use Rattle.std.proofs.Common.{◌≡◌, ◌∙◌, Some, ap, codes, map, option_map, sym}
use Rattle.toml.specs.View.{table_view}
use Rattle.topology_file.specs.Entries.{name_at}
use Rattle.plan_file.specs.{listeners_at, values_at}
use Rattle.plan_file.proofs.Readings.{then-some}
use Rattle.plan_file.proofs.streams.read_stream.Goals as goal

pub returns : goal.returns
returns c =
    let ms = table_view c.args.table.now in
    let listeners = map (λ t. t.now) c.in-Some-2.listeners.items in
    let found : listeners_at ms ≡ Some listeners = sym c.in_ok-listeners.ensures ∙ ap (option_map (λ v. map (λ t. t.now) v.items)) c.in-Some-2.is in
    ap Some c.in_ok-form.ensures
    ∙ sym (then-some _ (name_at (codes "name") ms) c.in-Some.name.now (sym c.in-Some.ensures)
    ∙ then-some _ (name_at (codes "talker") ms) c.in-Some-read_name.talker.now (sym c.in-Some-read_name.ensures)
    ∙ then-some _ (listeners_at ms) listeners found
    ∙ then-some _ (values_at ms) c.in-Some-read_values.values (sym c.in-Some-read_values.ensures))
