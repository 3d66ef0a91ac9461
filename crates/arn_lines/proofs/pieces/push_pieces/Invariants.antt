use Rattle.std.proofs.Common.{◌≡◌, ◌++◌, take, flat_map, string_bytes}
use Rattle.arn_lines.specs.Pieces.{LeavesFront}
use Rattle.arn_lines.specs.Printed.{piece_text}
use Rattle.arn_lines.proofs.pieces.push_pieces.Given as goal

-- the pieces so far are written
abbrev pub invariant-loop-piece : goal.invariant-loop-piece
invariant-loop-piece l = record {
  written : string_bytes l.text ≡ string_bytes l.initial.text ++ flat_map piece_text (take l.piece-index l.pieces);
  front : LeavesFront (string_bytes l.initial.text) (string_bytes l.text);
}
