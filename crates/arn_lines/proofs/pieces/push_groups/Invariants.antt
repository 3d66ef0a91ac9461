use Rattle.std.proofs.Common.{◌≡◌, ◌++◌, take, codes, decimal, flat_map, string_bytes}
use Rattle.arn_lines.specs.Pieces.{LeavesFront}
use Rattle.arn_lines.proofs.pieces.push_groups.Given as goal

-- the groups so far are written
abbrev pub invariant-loop-group : goal.invariant-loop-group
invariant-loop-group l = record {
  written : string_bytes l.text ≡ string_bytes l.initial.text ++ flat_map (λ h. codes " " ++ decimal h) (take l.group-index l.groups);
  front : LeavesFront (string_bytes l.initial.text) (string_bytes l.text);
}
