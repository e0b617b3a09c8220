-- Why a hub stays open.
use Rattle.std.specs.Prelude.{◌≡◌, List}
use Rattle.turn_lock.specs.Passes.{IsLowestMissing}
use Rattle.bridge_book.specs.{Steps.Shared, Hub.Hub, Hub.PortPass, Hub.IsHubLock}
use Rattle.bridge_book.specs.declared.{shared.PortAsk.PortAsk, notice.Told.Told, hub.HubCloseErr.HubCloseErr, hub.HubCloseErr.TheVariants.MissingPass, hub.HubCloseErr.TheVariants.NoMemory}
use Rattle.turn_lock.specs.declared.close.CloseErr.{CloseErr}
use Rattle.turn_lock.specs.declared.close.CloseErr.TheVariants as closing

-- what is handed back is what was given; a pass is said to be missing only where it is, and it is
-- the lowest such one
abbrev pub IsRefusedHub : Hub → List PortPass → HubCloseErr → Type 0
IsRefusedHub hub passes (MissingPass number hub' passes') =
    IsLowestMissing hub.lock.passes passes number × (hub' ≡ hub) × (passes' ≡ passes)
IsRefusedHub hub passes (NoMemory hub' passes') = (hub' ≡ hub) × (passes' ≡ passes)

-- the lock that is handed back is a hub's
abbrev pub IsOfHub : CloseErr Shared PortAsk Told → Type 0
IsOfHub (closing.MissingPass number lock passes) = IsHubLock lock
IsOfHub (closing.NoMemory lock passes) = IsHubLock lock
