-- What slices and their records say of each slot.
use Rattle.std.proofs.Common.{◌≡◌, ◌≢◌, ◌⊎◌, inl, inr, ℕ, zero, suc, ◌+◌, ◌==◌, ◌&&◌, ◌||◌, not, Bool, true, false, cond, ◌++◌, List, [], ◌∷◌, length, map, take, flat_map, Option, Some, None, IfSome, is_some, slice_get, option_and_then, option_map, refl, sym, ap, ◌∙◌, subst, append-nil, append_assoc, length-append, length-take, zero-add, arith}
use Rattle.std.specs.List.{list_any}
use Rattle.std.proofs.lemmas.Bool.Decides.{eqb_tells}
use Rattle.std.proofs.lemmas.List.{take_all}
use Rattle.std.proofs.lemmas.List.Concat.{flat_map-append}
use Rattle.std.proofs.lemmas.List.Elements.{filter_map-append}
use Rattle.arn_base.specs.Device.{DeviceReply, Faults, Gives, countable, cut_to}
use Rattle.arn_base.specs.declared.boxes.Device.{Ghosts}
use Rattle.arn_base.specs.declared.records.Extra.{Extra}
use Rattle.arn_base.specs.declared.records.Extra.TheVariants as extra
use Rattle.arn_base.specs.declared.records.Record.{Record}
use Rattle.arn_base.specs.declared.records.Record.TheVariants as entry
use Rattle.parts_model.specs.Numbered.{nth}
use Rattle.parts_model.specs.Replies as replies
use Rattle.parts_model.specs.Replies.{Answered, GaveBytes, TookBytes, Failed, IsAbsent, IsHere, ReadReply, to_read}
use Rattle.arn_model.specs.Parts.{TurnsHaveParts}
use Rattle.history_model.specs.Unplugged.{is_gone, unplugged_by, unplugged_in}
use Rattle.log_model.specs.Records.{records_from}
use Rattle.guest_devices.specs.Answers.{Asked, Here, Reads, Writes}
use Rattle.guest_devices.specs.Slots.{ReadsSlot, UnplugsSlot, WritesSlot, answer_of, is_filled, slot_tells, taken_by}
use Rattle.guest_legs.specs.Legs.{AreInRange, Ask, Going, IsInRange, Picked, asks_by, input_of}
use Rattle.guest_machine.specs.Asked.{AreOfAnswer, HoldNoAnswer, HoldsNoAnswer, answer_extra, entries_of, extra_by, extras_in, here_extra, read_extra, slice_asks, slice_entries, write_extra}
use Rattle.guest_machine.specs.Legs.{RepliedBy}
use Rattle.guest_machine.specs.Slices.{RepliesIn}
use Rattle.guest_machine.specs.Took.{Read, SlotFollows, read_answered, reads_by, reads_in, reads_of, replied_by, replied_in, reply_bytes, sent_in, sent_to, told_reply}
use Rattle.guest_machine.specs.TookLaws.{slots_answer, SlotsFollow, TookBy}
use Rattle.guest_machine.proofs.AskedLemmas.{Replied, in-replied, leg-entries, slice-holds, slice-unplugs}

clash : true ≡ false → ⊥
clash is = cc

first-true : (a b : Bool) → (a && b) ≡ true → a ≡ true
first-true true b is = refl
first-true false b is = is

and-true : (a : Bool) → a ≡ (a && true)
and-true true = refl
and-true false = refl

and-false : (a : Bool) → false ≡ (a && false)
and-false true = refl
and-false false = refl

and-not : (a b c : Bool) → ((a && not b) && not c) ≡ (a && not (b || c))
and-not true true c = refl
and-not true false c = refl
and-not false b c = refl

or_assoc : (a b c : Bool) → (a || (b || c)) ≡ ((a || b) || c)
or_assoc true b c = refl
or_assoc false b c = refl

any-append : (f : ℕ → Bool) (xs ys : List ℕ) → list_any f (xs ++ ys) ≡ (list_any f xs || list_any f ys)
any-append f [] ys = refl
any-append f (x ∷ xs) ys = ap (λ (b : Bool). f x || b) (any-append f xs ys) ∙ or_assoc (f x) (list_any f xs) (list_any f ys)

gone-append : (es fs : List Record) (n : ℕ) → is_gone (es ++ fs) n ≡ (is_gone es n || is_gone fs n)
gone-append es fs n = ap (list_any (λ d. d == n)) (filter_map-append unplugged_by es fs) ∙ any-append (λ d. d == n) (unplugged_in es) (unplugged_in fs)

-- records that say of no device that it was unplugged
none-gone : (entries : List Record) (n : ℕ) → unplugged_in entries ≡ [] → is_gone entries n ≡ false
none-gone entries n none = ap (list_any (λ d. d == n)) none

put-none : (o : Option (List ℕ)) → o ≡ option_map (λ had. had ++ []) o
put-none None = refl
put-none (Some had) = ap (λ (l : List ℕ). Some l) (sym (append-nil had))

put-more : (a b c : Option (List ℕ)) (xs ys : List ℕ) → b ≡ option_map (λ had. had ++ xs) a → c ≡ option_map (λ had. had ++ ys) b → c ≡ option_map (λ had. had ++ (xs ++ ys)) a
put-more None b c xs ys first then_ = then_ ∙ ap (λ (o : Option (List ℕ)). option_map (λ had. had ++ ys) o) first
put-more (Some had) b c xs ys first then_ = then_ ∙ ap (λ (o : Option (List ℕ)). option_map (λ had. had ++ ys) o) first ∙ ap (λ (l : List ℕ). Some l) (append_assoc had xs ys)

-- replies that were told, from a place on
abbrev IsTold : Option DeviceReply → Option Read → Type 0
IsTold o read = IfSome o (λ told. option_map (λ read. read.reply) read ≡ option_map (λ read. told_reply read.len told) read)

none-told : (o : Option DeviceReply) → IsTold o None
none-told None = tt
none-told (Some told) = refl

told-append : (f h : ℕ → Option DeviceReply) (xs ys : List Read) → ((k : ℕ) → IsTold (f k) (slice_get xs k)) → ((k : ℕ) → IsTold (h k) (slice_get ys k)) → (ys ≡ []) ⊎ ((k : ℕ) → h k ≡ f (length xs + k)) → (k : ℕ) → IsTold (f k) (slice_get (xs ++ ys) k)
told-append f h [] ys p q (inl none) k = subst (λ (l : List Read). IsTold (f k) (slice_get l k)) (sym none) (none-told (f k))
told-append f h [] ys p q (inr same) k = subst (λ (o : Option DeviceReply). IsTold o (slice_get ys k)) (same k ∙ ap f (zero-add k)) (q k)
told-append f h (x ∷ xs) ys p q later zero = p 0
told-append f h (x ∷ xs) ys p q later (suc k) =
    told-append (λ k. f (suc k)) h xs ys (λ k. p (suc k)) q (moved later) k
  where
    moved : (ys ≡ []) ⊎ ((k : ℕ) → h k ≡ f (length (x ∷ xs) + k)) → (ys ≡ []) ⊎ ((k : ℕ) → h k ≡ f (suc (length xs + k)))
    moved (inl none) = inl none
    moved (inr same) = inr (λ k. same k ∙ ap f (omega arith))

-- bytes that were cut to what one answer counts are no more than were asked for
take-again : (len : ℕ) (bytes : List ℕ) → take len (take (countable len) bytes) ≡ take (countable len) bytes
take-again len bytes = take_all len (take (countable len) bytes) (omega (arith, length-take (countable len) bytes))

-- a told reply as it is recorded
as-told : (len : ℕ) (told : DeviceReply) → to_read len (Some (answer_of (cut_to len told))) ≡ told_reply len told
as-told len Faults = refl
as-told len (Gives bytes) = ap (λ (l : List ℕ). replies.Reads l) (take-again len bytes)

module _ {D : Type 0} (d : Ghosts D) (n : ℕ) where
  -- nothing came to the slot
  Follows-same : (entries : List Record) (old new : List (Option D)) → nth new n ≡ nth old n → is_gone entries n ≡ false → sent_to n entries ≡ [] → replied_by n entries ≡ [] → SlotFollows d n [] entries old new
  Follows-same entries old new is gone sent replied = record {
    filled = ap (λ (o : Option D). is_some o) is ∙ and-true (is_filled old n) ∙ ap (λ (b : Bool). is_filled old n && not b) (sym gone);
    unread = λ empty. refl;
    unsent = λ empty. sent;
    recorded = replied;
    told = λ k. none-told (slot_tells d.replies old n k);
    later = λ filled k. ap (λ (o : Option D). option_and_then (λ device. d.replies device k) o) is ∙ ap (slot_tells d.replies old n) (sym (zero-add k));
    took = λ filled. ap (λ (o : Option D). option_and_then d.took o) is ∙ put-none (option_and_then d.took (nth old n)) ∙ ap (λ (l : List ℕ). option_map (λ had. had ++ l) (option_and_then d.took (nth old n))) (sym sent);
  }

  pub Follows-append : (xs ys : List Read) (es fs : List Record) (a b c : List (Option D)) → SlotFollows d n xs es a b → SlotFollows d n ys fs b c → SlotFollows d n (xs ++ ys) (es ++ fs) a c
  Follows-append xs ys es fs a b c p q =
      let sent = sent-append es fs in
      record {
        filled = q.filled ∙ ap (λ (x : Bool). x && not (is_gone fs n)) p.filled ∙ and-not (is_filled a n) (is_gone es n) (is_gone fs n) ∙ ap (λ (x : Bool). is_filled a n && not x) (sym (gone-append es fs n));
        unread = λ empty. ap (λ (l : List Read). l ++ ys) (p.unread empty) ∙ q.unread (stays empty);
        unsent = λ empty. sent ∙ ap (λ (l : List ℕ). l ++ sent_to n fs) (p.unsent empty) ∙ q.unsent (stays empty);
        recorded =
            ap (flat_map (replied_in n)) (flat_map-append extra_by es fs)
            ∙ flat_map-append (replied_in n) (extras_in es) (extras_in fs)
            ∙ ap (λ (l : List (List ℕ)). l ++ replied_by n fs) p.recorded
            ∙ ap (λ (l : List (List ℕ)). flat_map (λ (read : Read). reply_bytes read.reply) xs ++ l) q.recorded
            ∙ sym (flat_map-append (λ (read : Read). reply_bytes read.reply) xs ys);
        told = told-append (slot_tells d.replies a n) (slot_tells d.replies b n) xs ys p.told q.told (between (is_filled b n) refl);
        later = λ filled k. q.later filled k ∙ p.later (still filled) (length ys + k) ∙ ap (slot_tells d.replies a n) (omega (arith, length-append xs ys));
        took = λ filled.
            put-more (option_and_then d.took (nth a n)) (option_and_then d.took (nth b n)) (option_and_then d.took (nth c n)) (sent_to n es) (sent_to n fs) (p.took (still filled)) (q.took filled)
            ∙ ap (λ (l : List ℕ). option_map (λ had. had ++ l) (option_and_then d.took (nth a n))) (sym sent);
      }
    where
      sent-append : (es fs : List Record) → sent_to n (es ++ fs) ≡ sent_to n es ++ sent_to n fs
      sent-append es fs = ap (flat_map (sent_in n)) (flat_map-append extra_by es fs) ∙ flat_map-append (sent_in n) (extras_in es) (extras_in fs)

      still : is_filled c n ≡ true → is_filled b n ≡ true
      still filled = first-true (is_filled b n) (not (is_gone fs n)) (sym q.filled ∙ filled)

      stays : is_filled a n ≡ false → is_filled b n ≡ false
      stays empty = p.filled ∙ ap (λ (x : Bool). x && not (is_gone es n)) empty

      between : (x : Bool) → is_filled b n ≡ x → (ys ≡ []) ⊎ ((k : ℕ) → slot_tells d.replies b n k ≡ slot_tells d.replies a n (length xs + k))
      between true is = inr (p.later is)
      between false is = inl (q.unread is)

  -- another slot stays
  elsewhere : (m : ℕ) (old new : List (Option D)) → m ≢ n → ((k : ℕ) → k ≢ m → slice_get new k ≡ slice_get old k) → nth new n ≡ nth old n
  elsewhere m old new other others = ap (λ (o : Option (Option D)). option_and_then (λ slot. slot) o) (others n (λ is. other (sym is)))

  -- records that hold no answer
  none-sent : (extras : List Extra) → HoldNoAnswer extras → flat_map (sent_in n) extras ≡ []
  none-sent [] none = refl
  none-sent (more ∷ extras) none = ap (λ (l : List ℕ). l ++ flat_map (sent_in n) extras) (one more none.0) ∙ none-sent extras none.1
    where
      one : (more : Extra) → HoldsNoAnswer more → sent_in n more ≡ []
      one (extra.Sent device bytes) none = absurd none
      one other none = refl

  none-replied : (extras : List Extra) → HoldNoAnswer extras → flat_map (replied_in n) extras ≡ []
  none-replied [] none = refl
  none-replied (more ∷ extras) none = ap (λ (l : List (List ℕ)). l ++ flat_map (replied_in n) extras) (one more none.0) ∙ none-replied extras none.1
    where
      one : (more : Extra) → HoldsNoAnswer more → replied_in n more ≡ []
      one (extra.Reply device bytes) none = absurd none
      one other none = refl

  -- what the record of a read holds of this slot
  read-sent : (m len : ℕ) (answer : Answered) → sent_in n (read_extra m (to_read len (Some answer))) ≡ []
  read-sent m len (GaveBytes bytes) = refl
  read-sent m len (TookBytes count) = refl
  read-sent m len Failed = refl
  read-sent m len IsAbsent = refl
  read-sent m len IsHere = refl

  read-here : (m len : ℕ) (answer : Answered) → (m == n) ≡ true → replied_in n (read_extra m (to_read len (Some answer))) ≡ flat_map (λ (read : Read). reply_bytes read.reply) (read_answered len answer)
  read-here m len (GaveBytes bytes) is = ap (λ (b : Bool). cond b (take len bytes ∷ []) []) is
  read-here m len (TookBytes count) is = refl
  read-here m len Failed is = refl
  read-here m len IsAbsent is = refl
  read-here m len IsHere is = refl

  read-elsewhere : (m len : ℕ) (answer : Answered) → (m == n) ≡ false → replied_in n (read_extra m (to_read len (Some answer))) ≡ []
  read-elsewhere m len (GaveBytes bytes) is = ap (λ (b : Bool). cond b (take len bytes ∷ []) []) is
  read-elsewhere m len (TookBytes count) is = refl
  read-elsewhere m len Failed is = refl
  read-elsewhere m len IsAbsent is = refl
  read-elsewhere m len IsHere is = refl

  -- and that of a write
  write-replied : (m : ℕ) (bytes : List ℕ) (answer : Answered) → replied_in n (write_extra m bytes answer) ≡ []
  write-replied m bytes (GaveBytes gave) = refl
  write-replied m bytes (TookBytes count) = refl
  write-replied m bytes Failed = refl
  write-replied m bytes IsAbsent = refl
  write-replied m bytes IsHere = refl

  write-here : (m : ℕ) (bytes : List ℕ) (answer : Answered) → (m == n) ≡ true → sent_in n (write_extra m bytes answer) ≡ taken_by answer bytes
  write-here m bytes (GaveBytes gave) is = refl
  write-here m bytes (TookBytes count) is = ap (λ (b : Bool). cond b (take count bytes) []) is
  write-here m bytes Failed is = refl
  write-here m bytes IsAbsent is = refl
  write-here m bytes IsHere is = refl

  write-elsewhere : (m : ℕ) (bytes : List ℕ) (answer : Answered) → (m == n) ≡ false → sent_in n (write_extra m bytes answer) ≡ []
  write-elsewhere m bytes (GaveBytes gave) is = refl
  write-elsewhere m bytes (TookBytes count) is = ap (λ (b : Bool). cond b (take count bytes) []) is
  write-elsewhere m bytes Failed is = refl
  write-elsewhere m bytes IsAbsent is = refl
  write-elsewhere m bytes IsHere is = refl

  here-sent : (answer : Answered) → sent_in n (here_extra answer) ≡ []
  here-sent (GaveBytes gave) = refl
  here-sent (TookBytes count) = refl
  here-sent Failed = refl
  here-sent IsAbsent = refl
  here-sent IsHere = refl

  here-replied : (answer : Answered) → replied_in n (here_extra answer) ≡ []
  here-replied (GaveBytes gave) = refl
  here-replied (TookBytes count) = refl
  here-replied Failed = refl
  here-replied IsAbsent = refl
  here-replied IsHere = refl

  -- the one record of a call holds this
  sent-one : (entries : List Record) (more : Extra) (bytes : List ℕ) → extras_in entries ≡ more ∷ [] → sent_in n more ≡ bytes → sent_to n entries ≡ bytes
  sent-one entries more bytes is holds = ap (flat_map (sent_in n)) is ∙ append-nil (sent_in n more) ∙ holds

  replied-one : (entries : List Record) (more : Extra) (bytes : List (List ℕ)) → extras_in entries ≡ more ∷ [] → replied_in n more ≡ bytes → replied_by n entries ≡ bytes
  replied-one entries more bytes is holds = ap (flat_map (replied_in n)) is ∙ append-nil (replied_in n more) ∙ holds

  -- one read
  reads-one : (len : ℕ) (answer : Answered) → answer ≢ IsAbsent → read_answered len answer ≡ record { len = len; reply = to_read len (Some answer) } ∷ []
  reads-one len (GaveBytes bytes) there = refl
  reads-one len (TookBytes count) there = refl
  reads-one len Failed there = refl
  reads-one len IsAbsent there = absurd (there refl)
  reads-one len IsHere there = refl

  one-told : (f : ℕ → Option DeviceReply) (len : ℕ) (answer : Answered) → IfSome (f 0) (λ told. answer ≡ answer_of (cut_to len told)) → (k : ℕ) → IsTold (f k) (slice_get (read_answered len answer) k)
  one-told f len answer is k = by answer is
    where
      first : (answer : Answered) (o : Option DeviceReply) → IfSome o (λ told. answer ≡ answer_of (cut_to len told)) → IsTold o (Some (record { len = len; reply = to_read len (Some answer) }))
      first answer None is = tt
      first answer (Some told) is = ap (λ (r : ReadReply). Some r) (ap (λ (x : Answered). to_read len (Some x)) is ∙ as-told len told)

      at : (answer : Answered) → IfSome (f 0) (λ told. answer ≡ answer_of (cut_to len told)) → (k : ℕ) → IsTold (f k) (slice_get (record { len = len; reply = to_read len (Some answer) } ∷ []) k)
      at answer is zero = first answer (f 0) is
      at answer is (suc k) = none-told (f (suc k))

      by : (answer : Answered) → IfSome (f 0) (λ told. answer ≡ answer_of (cut_to len told)) → IsTold (f k) (slice_get (read_answered len answer) k)
      by (GaveBytes bytes) is = at (GaveBytes bytes) is k
      by (TookBytes count) is = at (TookBytes count) is k
      by Failed is = at Failed is k
      by IsAbsent is = none-told (f k)
      by IsHere is = at IsHere is k

  Follows-read : (len : ℕ) (answer : Answered) (entries : List Record) (old new : List (Option D)) → ReadsSlot d.replies d.room d.took d.put_faults n len answer old new → is_gone entries n ≡ false → sent_to n entries ≡ []
      → replied_by n entries ≡ flat_map (λ (read : Read). reply_bytes read.reply) (read_answered len answer) → SlotFollows d n (read_answered len answer) entries old new
  Follows-read len answer entries old new r gone sent replied = record {
    filled = r.stays ∙ and-true (is_filled old n) ∙ ap (λ (b : Bool). is_filled old n && not b) (sym gone);
    unread = λ empty. ap (read_answered len) (r.absent.1 empty);
    unsent = λ empty. sent;
    recorded = replied;
    told = one-told (slot_tells d.replies old n) len answer r.reply;
    later = λ filled k. r.later k ∙ ap (slot_tells d.replies old n) (omega (arith, ap length (reads-one len answer (λ is. clash (sym filled ∙ r.stays ∙ r.absent.0 is)))));
    took = λ filled. r.same_took ∙ put-none (option_and_then d.took (nth old n)) ∙ ap (λ (l : List ℕ). option_map (λ had. had ++ l) (option_and_then d.took (nth old n))) (sym sent);
  }

  Follows-write : (bytes : List ℕ) (answer : Answered) (entries : List Record) (old new : List (Option D)) → WritesSlot d.replies d.room d.took d.put_faults n bytes answer old new → is_gone entries n ≡ false → sent_to n entries ≡ taken_by answer bytes → replied_by n entries ≡ []
      → SlotFollows d n [] entries old new
  Follows-write bytes answer entries old new w gone sent replied = record {
    filled = w.stays ∙ and-true (is_filled old n) ∙ ap (λ (b : Bool). is_filled old n && not b) (sym gone);
    unread = λ empty. refl;
    unsent = λ empty. sent ∙ ap (λ (x : Answered). taken_by x bytes) (w.absent.1 empty);
    recorded = replied;
    told = λ k. none-told (slot_tells d.replies old n k);
    later = λ filled k. w.same_replies k ∙ ap (slot_tells d.replies old n) (sym (zero-add k));
    took = λ filled. w.more_took ∙ ap (λ (l : List ℕ). option_map (λ had. had ++ l) (option_and_then d.took (nth old n))) (sym sent);
  }

  -- a question and its answer
  Follows-answer : (asked : Asked) (answer : Answered) (entries : List Record) (old new : List (Option D)) → slots_answer d old asked answer new → is_gone entries n ≡ false → extras_in entries ≡ answer_extra asked answer ∷ [] → SlotFollows d n (reads_by n (Some asked) (Some answer)) entries old new
  Follows-answer (Here m) answer entries old new h gone holds =
      Follows-same entries old new (ap (λ (slots : List (Option D)). nth slots n) h.1) gone (sent-one entries (here_extra answer) [] holds (here-sent answer)) (replied-one entries (here_extra answer) [] holds (here-replied answer))
  Follows-answer (Reads m len) answer entries old new h gone holds = by (eqb_tells m n)
    where
      sent : sent_to n entries ≡ []
      sent = sent-one entries (read_extra m (to_read len (Some answer))) [] holds (read-sent m len answer)

      by : (((m == n) ≡ true) × (m ≡ n)) ⊎ (((m == n) ≡ false) × (m ≢ n)) → SlotFollows d n (cond (m == n) (read_answered len answer) []) entries old new
      by (inl is) =
          let replied = replied-one entries (read_extra m (to_read len (Some answer))) _ holds (read-here m len answer is.0) in
          subst (λ (b : Bool). SlotFollows d n (cond b (read_answered len answer) []) entries old new) (sym is.0)
          (Follows-read len answer entries old new (subst (λ (k : ℕ). ReadsSlot d.replies d.room d.took d.put_faults k len answer old new) is.1 h) gone sent replied)
      by (inr is) =
          let replied = replied-one entries (read_extra m (to_read len (Some answer))) [] holds (read-elsewhere m len answer is.0) in
          subst (λ (b : Bool). SlotFollows d n (cond b (read_answered len answer) []) entries old new) (sym is.0)
          (Follows-same entries old new (elsewhere m old new is.1 h.others) gone sent replied)
  Follows-answer (Writes m bytes) answer entries old new h gone holds = by (eqb_tells m n)
    where
      replied : replied_by n entries ≡ []
      replied = replied-one entries (write_extra m bytes answer) [] holds (write-replied m bytes answer)

      by : (((m == n) ≡ true) × (m ≡ n)) ⊎ (((m == n) ≡ false) × (m ≢ n)) → SlotFollows d n [] entries old new
      by (inl is) =
          Follows-write bytes answer entries old new (subst (λ (k : ℕ). WritesSlot d.replies d.room d.took d.put_faults k bytes answer old new) is.1 h) gone (sent-one entries (write_extra m bytes answer) _ holds (write-here m bytes answer is.0)) replied
      by (inr is) = Follows-same entries old new (elsewhere m old new is.1 h.others) gone (sent-one entries (write_extra m bytes answer) [] holds (write-elsewhere m bytes answer is.0)) replied

  -- what may be asked and answered
  Follows-replied : (asked : Option Asked) (reply : Option Answered) (entries : List Record) (old new : List (Option D)) → Replied (slots_answer d) asked reply old new → AreOfAnswer asked reply (extras_in entries) → is_gone entries n ≡ false → SlotFollows d n (reads_by n asked reply) entries old new
  Follows-replied None reply entries old new h holds gone =
      Follows-same entries old new (ap (λ (slots : List (Option D)). nth slots n) h.1) gone (none-sent (extras_in entries) holds) (none-replied (extras_in entries) holds)
  Follows-replied (Some asked) None entries old new h holds gone = absurd h
  Follows-replied (Some asked) (Some answer) entries old new h holds gone = Follows-answer asked answer entries old new h gone holds

  -- a slice
  pub Follows-slice : TurnsHaveParts → (ask : Ask) (s : Picked) (old new : List (Option D)) → IsInRange ask s.pick → RepliesIn (slots_answer d) s.pick.count s.pick.pid ask.machine s.reply old new → SlotFollows d n (reads_in n ask s) (slice_entries ask s) old new
  Follows-slice parts ask s old new range h =
      Follows-replied (slice_asks ask s) s.reply (slice_entries ask s) old new (in-replied (slots_answer d) s.reply old new s.pick.count s.pick.pid ask.machine h) (slice-holds parts (slots_answer d) ask s old new range h)
      (none-gone (slice_entries ask s) n (slice-unplugs parts ask s range))

  -- records of what comes to no slot
  pub Follows-others : (entries : List Record) (slots : List (Option D)) → HoldNoAnswer (extras_in entries) → unplugged_in entries ≡ [] → SlotFollows d n [] entries slots slots
  Follows-others entries slots holds none =
      Follows-same entries slots slots refl (none-gone entries n none) (none-sent (extras_in entries) holds) (none-replied (extras_in entries) holds)

  -- an unplugging
  pub Follows-unplug : (m : ℕ) (old new : List (Option D)) → UnplugsSlot m old new → SlotFollows d n [] (entry.Unplug m ∷ []) old new
  Follows-unplug m old new u = by (eqb_tells m n)
    where
      by : (((m == n) ≡ true) × (m ≡ n)) ⊎ (((m == n) ≡ false) × (m ≢ n)) → SlotFollows d n [] (entry.Unplug m ∷ []) old new
      by (inl is) =
          let empty : is_filled new n ≡ false = subst (λ (k : ℕ). is_filled new k ≡ false) is.1 u.gone in
          record {
            filled = empty ∙ and-false (is_filled old n) ∙ ap (λ (b : Bool). is_filled old n && not (b || false)) (sym is.0);
            unread = λ empty. refl;
            unsent = λ empty. refl;
            recorded = refl;
            told = λ k. none-told (slot_tells d.replies old n k);
            later = λ filled. absurd (clash (sym filled ∙ empty));
            took = λ filled. absurd (clash (sym filled ∙ empty));
          }
      by (inr is) = Follows-same (entry.Unplug m ∷ []) old new (elsewhere m old new is.1 u.others) (ap (λ (b : Bool). b || false) is.0) refl refl

  -- slices
  Follows-slices : TurnsHaveParts → (asks : List Ask) (slices : List Picked) (old new : List (Option D)) → AreInRange asks slices → RepliedBy (slots_answer d) asks slices old new → SlotFollows d n (reads_of n asks slices) (entries_of asks slices) old new
  Follows-slices parts [] slices old new ranges h = subst (λ (slots : List (Option D)). SlotFollows d n [] [] old slots) (sym h.1) (Follows-others [] old tt refl)
  Follows-slices parts (ask ∷ asks) [] old new ranges h = absurd h
  Follows-slices parts (ask ∷ asks) (s ∷ slices) old new ranges h =
      Follows-append (reads_in n ask s) (reads_of n asks slices) (slice_entries ask s) (entries_of asks slices) old h.0 new
      (Follows-slice parts ask s old h.0 ranges.0 h.1)
      (Follows-slices parts asks slices h.0 new ranges.1 h.2)

  -- a leg
  pub Follows-leg : TurnsHaveParts → (start : Going) (slices : List Picked) (old new : List (Option D)) → AreInRange (asks_by start slices) slices → RepliedBy (slots_answer d) (asks_by start slices) slices old new → SlotFollows d n (reads_of n (asks_by start slices) slices) (records_from start.machine (map input_of slices)) old new
  Follows-leg parts start slices old new ranges h =
      subst (λ (entries : List Record). SlotFollows d n (reads_of n (asks_by start slices) slices) entries old new) (leg-entries start slices)
      (Follows-slices parts (asks_by start slices) slices old new ranges h)

-- all of it
pub slots-follow : {D : Type 0} (d : Ghosts D) → TurnsHaveParts → SlotsFollow d
slots-follow d parts = record {
  others = λ n. Follows-others d n;
  slice = λ n. Follows-slice d n parts;
  unplug = λ n. Follows-unplug d n;
  append = λ n. Follows-append d n;
}

pub took-by : {D : Type 0} (d : Ghosts D) → TurnsHaveParts → TookBy d
took-by d parts n = Follows-leg d n parts
