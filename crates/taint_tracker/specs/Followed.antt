-- What a tracker shows, which has nothing to tell once a step failed.
use Rattle.std.specs.Prelude.{◌≡◌, Bool, if◌then◌else◌, [], None}
use Rattle.rv64_model.specs.declared.linkage.Linkage.{Linkage}
use Rattle.taint_group.specs.declared.group.Group.{Group}
use Rattle.taint_state.specs.declared.point.Point.{Point}
use Rattle.taint_state.specs.Asked.{answer}
use Rattle.taint_group.specs.Groups.{kept_of}
use Rattle.taint_state.specs.Kept.{Kept}
use Rattle.taint_state.specs.Shown.{Tracking}

-- no member, no event
abbrev pub nothing_kept : Linkage → Kept
nothing_kept linkage = record { linkage = linkage; sets = record { sets = record { kept = []; runs = [] }; spans = [] }; members = []; heard = [] }

-- what is kept of a group, if it isn't lost
abbrev pub kept_unless : Bool → Group → Kept
kept_unless lost g = if lost then nothing_kept g.linkage else kept_of g

-- a step failed
abbrev pub IsLost : Kept → Type 0
IsLost kept = kept ≡ nothing_kept kept.linkage

-- there is no byte of which one may ask
abbrev pub HasNoByte : Tracking → Type 0
HasNoByte x = (point : Point) → answer x point ≡ None
