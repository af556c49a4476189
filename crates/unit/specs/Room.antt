-- A unit's steps as the code goes through them. Assumes nothing.
use Rattle.std.specs.Prelude.{◌<◌, Bool, true, false}
use Rattle.logs.specs.Plan.{Step, take_out, bring_in, point, close}

-- the unit's end
unfoldable pub is_close : Step → Bool
is_close (take_out org dest) = false
is_close (bring_in org dest back) = false
is_close (point base old new other) = false
is_close (close unit) = true

-- an LO's page is one of the 64
abbrev pub Inside : Step → Type 0
Inside (take_out org dest) = org < 64
Inside (bring_in org dest back) = Unit {0}
Inside (point base old new other) = Unit {0}
Inside (close unit) = Unit {0}
