-- What a reader keeps of a line, and what it uses of a source.
use Rattle.std.proofs.Common.{◌≡◌, ◌≢◌, ℕ, suc, ◌+◌, ◌-◌, ◌<◌, ◌≤◌, ◌++◌, List, [], ◌∷◌, Option, None, Some, option_map, refl, length, min, take, drop, get_or, inl, inr, sym, ap, subst, ◌∙◌, append_assoc, append-nil, add-one, arith, length-append, length-take}
use Rattle.std.proofs.lemmas.Bool.{cases_lt, eqb-true, eq-eqb}
use Rattle.std.proofs.lemmas.List.{take-append-drop, take_all, drop-drop, drop-take, get_or-take}
use Rattle.std.proofs.lemmas.List.Elements.{All-from_get_or, All-append}
use Rattle.std.proofs.Math.ListN.{drop_of_length-le}
use Rattle.std.proofs.Math.Seq.{drop-cons}
use Rattle.memchr.specs.Find.{Nowhere, NoneBefore, Passes, is_byte}
use Rattle.arn_lines.specs.declared.line.TheConstants.{MOST_LINE}
use Rattle.arn_commands.specs.Lines.{line_feed}
use Rattle.arn_commands.specs.Reader.{ReaderState, Uses, UsesSome}
use Rattle.arn_commands.specs.Pieces.{IsOneLine, IsKept, MovesLine, ReadsLine}

-- a line of which all is kept goes on
kept_all : (whole kept bytes new : List ℕ) (fits : ℕ) → fits ≡ min (MOST_LINE + 1 - length kept) (length bytes) → new ≡ kept ++ take fits bytes → whole ≡ kept → IsKept (whole ++ bytes) new
kept_all whole kept bytes new fits is grown all = record {
  dropped = drop fits bytes;
  is_line = ap (λ (x : List ℕ). x ++ bytes) all ∙ ap (λ (x : List ℕ). kept ++ x) (sym (take-append-drop fits bytes)) ∙ sym (append_assoc kept (take fits bytes) (drop fits bytes)) ∙ ap (λ (x : List ℕ). x ++ drop fits bytes) (sym grown);
  enough = elim (cases_lt fits (length bytes)) [
    | inl less ↦ inr (omega (arith, is, less, ap length grown, length-append kept (take fits bytes), length-take fits bytes))
    | inr no_less ↦ inl (drop_of_length-le bytes no_less)
  ];
}

-- a line that is too long already stays as it is
kept_long : (whole kept bytes new dropped : List ℕ) (fits : ℕ) → fits ≡ min (MOST_LINE + 1 - length kept) (length bytes) → new ≡ kept ++ take fits bytes → whole ≡ kept ++ dropped → MOST_LINE < length kept → IsKept (whole ++ bytes) new
kept_long whole kept bytes new dropped fits is grown line long =
    let none : fits ≡ 0 = omega (arith, is, long) in
    let same : new ≡ kept = grown ∙ ap (λ (n : ℕ). kept ++ take n bytes) none ∙ append-nil kept in
    record {
      dropped = dropped ++ bytes;
      is_line = ap (λ (x : List ℕ). x ++ bytes) line ∙ append_assoc kept dropped bytes ∙ ap (λ (x : List ℕ). x ++ (dropped ++ bytes)) (sym same);
      enough = inr (omega (arith, long, ap length same));
    }

-- more bytes come to a line
pub IsKept-more : (whole kept bytes new : List ℕ) (fits : ℕ) → fits ≡ min (MOST_LINE + 1 - length kept) (length bytes) → new ≡ kept ++ take fits bytes → IsKept whole kept → IsKept (whole ++ bytes) new
IsKept-more whole kept bytes new fits is grown k = elim k.enough [
  | inl none ↦ kept_all whole kept bytes new fits is grown (k.is_line ∙ ap (λ (x : List ℕ). kept ++ x) none ∙ append-nil kept)
  | inr long ↦ kept_long whole kept bytes new k.dropped fits is grown k.is_line long
]

-- the bytes ahead in a chunk, after some of them are used
pub ahead_after : (chunk : List ℕ) (from to used : ℕ) → used ≤ to - from → take (to - (from + used)) (drop (from + used) chunk) ≡ drop used (take (to - from) (drop from chunk))
ahead_after chunk from to used few =
    ap (λ (x : List ℕ). take (to - (from + used)) x) (sym (drop-drop used from chunk)) ∙ sym (drop-take used (to - (from + used)) (drop from chunk)) ∙ ap (λ (n : ℕ). drop used (take n (drop from chunk))) (omega (arith, few))

-- no bytes are ahead where all are used
pub none_ahead : (chunk : List ℕ) (to : ℕ) → take (to - to) (drop to chunk) ≡ []
none_ahead chunk to = let none : to - to ≡ 0 = omega arith in ap (λ (n : ℕ). take n (drop to chunk)) none

-- no LF stands before the first one
no_feed_before : (ahead : List ℕ) (len : ℕ) → len ≤ length ahead → Nowhere (Passes (is_byte line_feed) ahead) 0 len → IsOneLine (take len ahead)
no_feed_before ahead len short nowhere =
    All-from_get_or (λ byte. byte ≢ line_feed) (take len ahead) 0 (λ k within feed. nowhere k (omega arith) (omega (arith, within, length-take len ahead)) (eq-eqb (get_or ahead k 0) line_feed (sym (get_or-take len ahead k 0 (omega (arith, within, length-take len ahead))) ∙ feed)))

-- the bytes ahead up to an LF are moved
pub MovesLine-feed : (before after : ReaderState) (kept kept' ahead : List ℕ) (len : ℕ) → before.ahead ≡ ahead → NoneBefore (Passes (is_byte line_feed) ahead) 0 (length ahead) len → Passes (is_byte line_feed) ahead len → ((line : List ℕ) → IsKept line kept → IsKept (line ++ take len ahead) kept') → after.ahead ≡ drop (len + 1) ahead → MovesLine (line_feed ∷ []) before after kept kept'
MovesLine-feed before after kept kept' ahead len are first feed keeps rest = record {
  more = take len ahead;
  is_one = no_feed_before ahead len (omega (arith, first.high)) first.before;
  are_kept = keeps;
  were_ahead = are ∙ sym (take-append-drop len ahead) ∙ ap (λ (x : List ℕ). take len ahead ++ x) (drop-cons ahead len 0 first.high ∙ ap (λ (b : ℕ). b ∷ drop (suc len) ahead) (eqb-true (get_or ahead len 0) line_feed feed) ∙ ap (λ (x : List ℕ). line_feed ∷ x) (ap (λ (n : ℕ). drop n ahead) (sym (add-one len)) ∙ sym rest));
}

-- all bytes ahead are moved, where no LF is among them
pub MovesLine-all : (before after : ReaderState) (kept kept' ahead : List ℕ) → before.ahead ≡ ahead → Nowhere (Passes (is_byte line_feed) ahead) 0 (length ahead) → ((line : List ℕ) → IsKept line kept → IsKept (line ++ ahead) kept') → after.ahead ≡ [] → MovesLine [] before after kept kept'
MovesLine-all before after kept kept' ahead are nowhere keeps rest = record {
  more = ahead;
  is_one = subst (λ (x : List ℕ). IsOneLine x) (take_all (length ahead) ahead (omega arith)) (no_feed_before ahead (length ahead) (omega arith) nowhere);
  are_kept = keeps;
  were_ahead = are ∙ sym (append-nil ahead) ∙ ap (λ (x : List ℕ). ahead ++ x) (sym rest);
}

-- bytes that are used behind others
come_more : (a b c : List ℕ) (l0 l1 l2 : Option (List ℕ)) (x y : List ℕ) → option_map (λ rest. a ++ rest) l0 ≡ option_map (λ rest. x ++ rest) (option_map (λ rest. b ++ rest) l1) → option_map (λ rest. b ++ rest) l1 ≡ option_map (λ rest. y ++ rest) (option_map (λ rest. c ++ rest) l2) → option_map (λ rest. a ++ rest) l0 ≡ option_map (λ rest. (x ++ y) ++ rest) (option_map (λ rest. c ++ rest) l2)
come_more a b c l0 l1 None x y p q = p ∙ ap (λ (o : Option (List ℕ)). option_map (λ rest. x ++ rest) o) q
come_more a b c l0 l1 (Some r) x y p q =
    p ∙ ap (λ (o : Option (List ℕ)). option_map (λ rest. x ++ rest) o) q ∙ ap (λ (z : List ℕ). Some z) (sym (append_assoc x y (c ++ r)))

pub Uses-append : (x y : List ℕ) (a b c : ReaderState) (l0 l1 l2 : Option (List ℕ)) → Uses x a b l0 l1 → Uses y b c l1 l2 → Uses (x ++ y) a c l0 l2
Uses-append x y a b c l0 l1 l2 p q = record {
  come = come_more a.ahead b.ahead c.ahead l0 l1 l2 x y p.come q.come;
  counted = omega (arith, p.counted, q.counted, length-append x y);
}

come_ahead : (a bytes c : List ℕ) (left : Option (List ℕ)) → a ≡ bytes ++ c → option_map (λ rest. a ++ rest) left ≡ option_map (λ rest. bytes ++ rest) (option_map (λ rest. c ++ rest) left)
come_ahead a bytes c None p = refl
come_ahead a bytes c (Some r) p = ap (λ (z : List ℕ). Some z) (ap (λ (z : List ℕ). z ++ r) p ∙ append_assoc bytes c r)

-- bytes that were ahead are used
pub Uses-ahead : (bytes : List ℕ) (a c : ReaderState) (left : Option (List ℕ)) → a.ahead ≡ bytes ++ c.ahead → c.taken ≡ a.taken → Uses bytes a c left left
Uses-ahead bytes a c left p taken = record {
  come = come_ahead a.ahead bytes c.ahead left p;
  counted = omega (arith, taken, ap length p, length-append bytes c.ahead);
}

-- a part of a line was read, and the reader looked ahead
pub ReadsLine-look : (a b c : ReaderState) (l0 l1 l2 : Option (List ℕ)) (kept : List ℕ) → ReadsLine [] a b l0 l1 kept → Uses [] b c l1 l2 → ReadsLine [] a c l0 l2 kept
ReadsLine-look a b c l0 l1 l2 kept p look = record {
  line = p.line;
  is_one = p.is_one;
  is_kept = p.is_kept;
  used = subst (λ (x : List ℕ). Uses x a c l0 l2) (append-nil (p.line ++ [])) (Uses-append (p.line ++ []) [] a b c l0 l1 l2 p.used look);
}

-- a part of a line was read, and more of it was moved
pub ReadsLine-more : (end : List ℕ) (a b c : ReaderState) (l0 l1 : Option (List ℕ)) (kept kept' : List ℕ) → ReadsLine [] a b l0 l1 kept → MovesLine end b c kept kept' → c.taken ≡ b.taken → ReadsLine end a c l0 l1 kept'
ReadsLine-more end a b c l0 l1 kept kept' p moves taken = record {
  line = p.line ++ moves.more;
  is_one = All-append (λ byte. byte ≢ line_feed) p.line moves.more p.is_one moves.is_one;
  is_kept = moves.are_kept p.line p.is_kept;
  used = subst (λ (x : List ℕ). Uses x a c l0 l1) (ap (λ (x : List ℕ). x ++ (moves.more ++ end)) (append-nil p.line) ∙ sym (append_assoc p.line moves.more end)) (Uses-append (p.line ++ []) (moves.more ++ end) a b c l0 l1 l1 p.used (Uses-ahead (moves.more ++ end) b c l1 (moves.were_ahead ∙ sym (append_assoc moves.more end c.ahead)) taken));
}

pub UsesSome-line : (end : List ℕ) (a b : ReaderState) (l0 l1 : Option (List ℕ)) (kept : List ℕ) → ReadsLine end a b l0 l1 kept → UsesSome a b l0 l1
UsesSome-line end a b l0 l1 kept p = record { bytes = p.line ++ end; used = p.used }
