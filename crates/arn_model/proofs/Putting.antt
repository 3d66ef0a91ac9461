-- Bytes that are put into pipes and files, and taken from channels.
use Rattle.std.proofs.lemmas.Grind.{common_steps}
use Rattle.std.proofs.Common.{is_some, ◌≡◌, ◌⊎◌, inl, inr, ℕ, zero, suc, ◌+◌, ◌-◌, ◌<◌, ◌≤◌, List, [], ◌∷◌, ◌++◌, length, take, drop, refl, ap, ap₂, ◌∙◌, sym, subst, Option, Some, None, IfSome, Bool, true, false, ◌==◌, ◌&&◌, cond, if◌then◌else◌, arith, option_map, option_and_then, slice_get, nat_lt, nat_le, length-set, length-append, length-take, length-drop, take_all, length-take-le, append-nil}
use Rattle.std.proofs.lemmas.Bool.Decides.{nat_tests}
use Rattle.std.proofs.lemmas.List.{drop_all}
use Rattle.std.proofs.lemmas.Bool.{eq-eqb, eqb-true, lt-ltb, le-ltb, ltb-true, ltb-false, le-leb, lt-leb, leb-true, leb-false}
use Rattle.parts_model.specs.declared.open.Description.{Description}
use Rattle.parts_model.specs.declared.open.Description.TheVariants.{File}
use Rattle.parts_model.specs.declared.tagged.TaggedByte.{TaggedByte}
use Rattle.parts_model.specs.Channel.{Channel, channel_end, put_behind, front, without_front}
use Rattle.parts_model.specs.Files as files
use Rattle.parts_model.specs.Files.{Files, file_bytes, laid_over, fitting, written, rewritten}
use Rattle.parts_model.specs.Numbered.{nth}
use Rattle.parts_model.specs.Pipes as pipes
use Rattle.parts_model.specs.Pipes.{Pipe, room, with_put, with_taken}
use Rattle.parts_model.specs.Tagged.{held_from, held_bytes}
use Rattle.acts_model.specs.Moved.{ConsoleByte, PipeByte, FileByte, StatusByte, within, within_if}
use Rattle.acts_model.specs.Records.{NoLife, NoName, Written}
use Rattle.arn_model.specs.Kernel.{Kernel, Opened}
use Rattle.arn_model.specs.Sound.{FitsFiles}
use Rattle.arn_model.specs.Tells.{at_position, kernel_byte, put_byte, HoldsAfter}
use Rattle.arn_model.proofs.Numbers.{nth-change, get-take, get-drop, get-left, get-right}
use Rattle.arn_model.proofs.Quiet.{Less, file-same, last-refl, Quiet, quiet-pipe, quiet-console, pipe_byte}
use Rattle.arn_model.proofs.Effects.{FileKept, KernelTells, kept-same, eq-swap}

-- bytes that leave a channel
pub front-less : (c : Channel) (d n : ℕ) → Less (at_position (without_front c d) n) (at_position c n)
front-less c d n = grind (arith, nat_tests, get-drop, le-ltb, ltb-false)

pub front-there : (c : Channel) (most n : ℕ) → n < length (front c most) → at_position c (c.taken + n) ≡ slice_get (front c most) n
front-there c most n h1 = grind (arith, common_steps, nat_tests, length-take, le-ltb, get-take)

pub quiet-taken : (k : Kernel) (pipe most : ℕ) → Quiet k (record k { pipes = pipes.with_change k.pipes pipe (λ q. with_taken q most) })
quiet-taken k pipe most = quiet-pipe k pipe (option_map (λ q. with_taken q most)) refl each
  where
    each : (o : Option Pipe) (n : ℕ) → Less (pipe_byte (option_map (λ q. with_taken q most) o) n) (pipe_byte o n)
    each o n = grind (arith, nat_tests, front-less)

pub quiet-front : (k : Kernel) (d : ℕ) → Quiet k (record k { console = without_front k.console d })
quiet-front k d = quiet-console k (without_front k.console d) (front-less k.console d)

-- the bytes of an event
pub held-at : (event at : ℕ) (bytes : List ℕ) (j : ℕ) → slice_get (held_from event at bytes) j ≡ option_map (λ b. record { value = b; origin = record { event = event; at = at + j } }) (slice_get bytes j)
held-at event at [] j = refl
held-at event at (b ∷ bytes) zero = ap (λ (i : ℕ). Some (record { value = b; origin = record { event = event; at = i } })) (let e : at ≡ at + 0 = omega arith in e)
held-at event at (b ∷ bytes) (suc j) =
    held-at event (at + 1) bytes j
    ∙ ap (λ (i : ℕ). option_map (λ b. record { value = b; origin = record { event = event; at = i } }) (slice_get bytes j)) (let e : at + 1 + j ≡ at + suc j = omega arith in e)

pub length-held : (event at : ℕ) (bytes : List ℕ) → length (held_from event at bytes) ≡ length bytes
length-held event at [] = refl
length-held event at (b ∷ bytes) = ap suc (length-held event (at + 1) bytes)

-- what is put at a place of a range, and what isn't
pub within-there : (a n b : ℕ) → a ≤ b → b < a + n → within a n b ≡ Some (b - a)
within-there a n b l g = ap₂ (λ (x y : Bool). if x && y then Some (b - a) else None) (le-leb a b l) (lt-ltb b (a + n) g)

pub within-before : (a n b : ℕ) → b < a → within a n b ≡ None
within-before a n b l = ap (λ (x : Bool). if x && nat_lt b (a + n) then Some (b - a) else None) (lt-leb a b l)

within-behind : (a n b : ℕ) → a + n ≤ b → within a n b ≡ None
within-behind a n b h1 = grind (arith, nat_tests, le-ltb)

-- byte n of a list that has bytes of an event in the place from `at` on
abbrev pub PutAt : ℕ → ℕ → List ℕ → List TaggedByte → List TaggedByte → Type 0
PutAt event at bytes old new = (n : ℕ) (h : TaggedByte) → slice_get new n ≡ Some h → (put_byte event bytes (within at (length bytes) n) ≡ Some h) ⊎ ((within at (length bytes) n ≡ None) × (slice_get old n ≡ Some h))

laid-put : (event at : ℕ) (bytes : List ℕ) (old : List TaggedByte) → at ≤ length old → PutAt event at bytes old (laid_over old at (held_bytes event bytes))
laid-put event at bytes old l n h e = by_front (nat_lt n at) refl
  where
    size : length (take at old) ≡ at
    size = length-take-le at old l

    mid : length (held_bytes event bytes) ≡ length bytes
    mid = length-held event 0 bytes

    both : length (take at old ++ held_bytes event bytes) ≡ at + length bytes
    both = let a = size in let b = mid in omega (arith, length-append (take at old) (held_bytes event bytes))

    behind : at + length bytes ≤ n → slice_get old n ≡ Some h
    behind g =
        let len = both in
        let m = mid in
        let j : n ≡ length (take at old ++ held_bytes event bytes) + (n - (at + length bytes)) = omega arith in
        let i : at + length (held_bytes event bytes) + (n - (at + length bytes)) ≡ n = omega arith in
        ap (λ (i : ℕ). slice_get old i) (sym i)
        ∙ (sym (get-drop (at + length (held_bytes event bytes)) old (n - (at + length bytes)))
        ∙ (sym (get-right (take at old ++ held_bytes event bytes) (drop (at + length (held_bytes event bytes)) old) (n - (at + length bytes)))
        ∙ (ap (λ (i : ℕ). slice_get (laid_over old at (held_bytes event bytes)) i) (sym j) ∙ e)))

    inside : at ≤ n → n < at + length bytes → put_byte event bytes (Some (n - at)) ≡ Some h
    inside g m =
        let len = both in
        let s = size in
        let j : n ≡ length (take at old) + (n - at) = omega arith in
        sym (held-zero (n - at))
        ∙ (sym (get-right (take at old) (held_bytes event bytes) (n - at))
        ∙ (ap (λ (i : ℕ). slice_get (take at old ++ held_bytes event bytes) i) (sym j)
        ∙ (sym (get-left (take at old ++ held_bytes event bytes) (drop (at + length (held_bytes event bytes)) old) n (omega arith)) ∙ e)))
      where
        held-zero : (j : ℕ) → slice_get (held_bytes event bytes) j ≡ put_byte event bytes (Some j)
        held-zero j = held-at event 0 bytes j ∙ ap (λ (i : ℕ). option_map (λ b. record { value = b; origin = record { event = event; at = i } }) (slice_get bytes j)) (let z : 0 + j ≡ j = omega arith in z)

    front_part : n < at → slice_get old n ≡ Some h
    front_part h1 = grind (arith, nat_tests, both, size, get-take, get-left)

    by_behind : at ≤ n → (b : Bool) → nat_lt n (at + length bytes) ≡ b → (put_byte event bytes (within at (length bytes) n) ≡ Some h) ⊎ ((within at (length bytes) n ≡ None) × (slice_get old n ≡ Some h))
    by_behind g true t =
        let m = ltb-true n (at + length bytes) t in
        inl (ap (λ (o : Option ℕ). put_byte event bytes o) (within-there at (length bytes) n g m) ∙ inside g m)
    by_behind g false t = let m = ltb-false n (at + length bytes) t in inr (within-behind at (length bytes) n m, behind m)

    by_front : (b : Bool) → nat_lt n at ≡ b → (put_byte event bytes (within at (length bytes) n) ≡ Some h) ⊎ ((within at (length bytes) n ≡ None) × (slice_get old n ≡ Some h))
    by_front true t = let g = ltb-true n at t in inr (within-before at (length bytes) n g, front_part g)
    by_front false t = by_behind (ltb-false n at t) (nat_lt n (at + length bytes)) refl

append-laid : (old new : List TaggedByte) → laid_over old (length old) new ≡ old ++ new
append-laid old new = grind (arith, common_steps, nat_tests, drop_all, append-nil)

append-put : (event : ℕ) (bytes : List ℕ) (old : List TaggedByte) → PutAt event (length old) bytes old (old ++ held_bytes event bytes)
append-put event bytes old = subst (λ (new : List TaggedByte). PutAt event (length old) bytes old new) (append-laid old (held_bytes event bytes)) (laid-put event (length old) bytes old (omega arith))

-- positions of a channel are places of its queue, further on by how many were taken
le-shift : (t q n : ℕ) → t ≤ n → nat_le (t + q) n ≡ nat_le q (n - t)
le-shift t q n h1 = grind (arith, nat_tests, le-leb, leb-false, leb-true, lt-leb)

lt-shift : (t q n : ℕ) → t ≤ n → nat_lt n (t + q) ≡ nat_lt (n - t) q
lt-shift t q n h1 = grind (arith, nat_tests, le-ltb, lt-ltb, ltb-false, ltb-true)

within-shift : (t q len n : ℕ) → t ≤ n → within (t + q) len n ≡ within q len (n - t)
within-shift t q len n h1 = grind (arith, nat_tests, le-shift, lt-shift)

channel-put : (event : ℕ) (bytes : List ℕ) (c : Channel) (n : ℕ) (h : TaggedByte) → at_position (put_behind c event bytes) n ≡ Some h → (put_byte event bytes (within (channel_end c) (length bytes) n) ≡ Some h) ⊎ ((within (channel_end c) (length bytes) n ≡ None) × (at_position c n ≡ Some h))
channel-put event bytes c n h e = by_test (nat_lt n c.taken) refl e
  where
    old : nat_lt n c.taken ≡ false → slice_get c.queue (n - c.taken) ≡ Some h → at_position c n ≡ Some h
    old t e = ap (λ b. if b then None else slice_get c.queue (n - c.taken)) t ∙ e

    moved : nat_lt n c.taken ≡ false → (put_byte event bytes (within (length c.queue) (length bytes) (n - c.taken)) ≡ Some h) ⊎ ((within (length c.queue) (length bytes) (n - c.taken) ≡ None) × (slice_get c.queue (n - c.taken) ≡ Some h)) → (put_byte event bytes (within (channel_end c) (length bytes) n) ≡ Some h) ⊎ ((within (channel_end c) (length bytes) n ≡ None) × (at_position c n ≡ Some h))
    moved h1 h2 = grind (arith, nat_tests, within-shift, ltb-false, old)

    by_test : (b : Bool) → nat_lt n c.taken ≡ b → (if b then None else slice_get (c.queue ++ held_bytes event bytes) (n - c.taken)) ≡ Some h → (put_byte event bytes (within (channel_end c) (length bytes) n) ≡ Some h) ⊎ ((within (channel_end c) (length bytes) n ≡ None) × (at_position c n ≡ Some h))
    by_test true t e = absurd (cc)
    by_test false t e = moved t (append-put event bytes c.queue (n - c.taken) h e)

-- into a pipe
pub piped-tells : (k : Kernel) (event pipe : ℕ) (p : Pipe) (bytes : List ℕ) → nth k.pipes pipe ≡ Some p → length bytes ≤ room p → KernelTells k event bytes (Some (record { first = PipeByte pipe (channel_end p.channel); len = length bytes })) NoLife NoName None (record k { pipes = pipes.with_change k.pipes pipe (λ q. with_put q bytes event) })
piped-tells k event pipe p bytes there fits =
    record {
      holds = holds;
      living = λ q. refl;
      names = λ path. refl;
      kept = λ file. kept-same event file (file_bytes k.files file) (file_bytes k.files file) (file-same (file_bytes k.files file) (file_bytes k.files file) refl);
      last = last-refl k.files;
      writes = tt;
      sound = λ s. record { fits = s.fits; named = s.named; there = s.there };
      grows = omega arith;
      few = omega arith;
      unplugged = refl;
    }
  where
    own : (o : Option Pipe) (n : ℕ) (h : TaggedByte) → o ≡ Some p → pipe_byte (option_map (λ q. with_put q bytes event) o) n ≡ Some h → (put_byte event bytes (within (channel_end p.channel) (length bytes) n) ≡ Some h) ⊎ ((within (channel_end p.channel) (length bytes) n ≡ None) × (pipe_byte o n ≡ Some h))
    own None n h x e = absurd (cc)
    own (Some q) n h x e =
        let same : q ≡ p = cc in
        subst (λ (p : Pipe). (put_byte event bytes (within (channel_end p.channel) (length bytes) n) ≡ Some h) ⊎ ((within (channel_end p.channel) (length bytes) n ≡ None) × (at_position q.channel n ≡ Some h))) same
        (channel-put event bytes q.channel n h
        (ap (λ (bytes : List ℕ). at_position (put_behind q.channel event bytes) n) (sym (take_all (room q) bytes (subst (λ (p : Pipe). length bytes ≤ room p) (sym same) fits))) ∙ e))

    none_if : (b : Bool) (n : ℕ) → b ≡ false → put_byte event bytes (within_if b (channel_end p.channel) (length bytes) n) ≡ None
    none_if b n h1 = grind (arith, nat_tests)

    side : (q n : ℕ) (h : TaggedByte) (b : Bool) → b ≡ true → (put_byte event bytes (within (channel_end p.channel) (length bytes) n) ≡ Some h) ⊎ ((within (channel_end p.channel) (length bytes) n ≡ None) × (pipe_byte (nth k.pipes q) n ≡ Some h)) → (put_byte event bytes (within_if b (channel_end p.channel) (length bytes) n) ≡ Some h) ⊎ ((put_byte event bytes (within_if b (channel_end p.channel) (length bytes) n) ≡ None) × (pipe_byte (nth k.pipes q) n ≡ Some h))
    side q n h b h1 h2 = grind (arith, nat_tests)

    by_test : (q n : ℕ) (h : TaggedByte) (b : Bool) → (q == pipe) ≡ b → pipe_byte (cond b (option_map (λ q. with_put q bytes event) (nth k.pipes q)) (nth k.pipes q)) n ≡ Some h → (put_byte event bytes (within_if (pipe == q) (channel_end p.channel) (length bytes) n) ≡ Some h) ⊎ ((put_byte event bytes (within_if (pipe == q) (channel_end p.channel) (length bytes) n) ≡ None) × (pipe_byte (nth k.pipes q) n ≡ Some h))
    by_test q n h true t e = side q n h (pipe == q) (eq-swap pipe q ∙ t) (own (nth k.pipes q) n h (ap (λ (i : ℕ). nth k.pipes i) (eqb-true q pipe t) ∙ there) e)
    by_test q n h false t e = inr (none_if (pipe == q) n (eq-swap pipe q ∙ t), e)

    holds : HoldsAfter k event bytes (Some (record { first = PipeByte pipe (channel_end p.channel); len = length bytes })) (record k { pipes = pipes.with_change k.pipes pipe (λ q. with_put q bytes event) })
    holds (PipeByte q n) h e = by_test q n h (q == pipe) refl (ap (λ (o : Option Pipe). pipe_byte o n) (sym (nth-change (option_map (λ q. with_put q bytes event)) refl k.pipes pipe q)) ∙ e)
    holds _ h e = inr (refl, e)

-- into a file, at a place in it

abbrev pub LiesIn : Option (List TaggedByte) → ℕ → Type 0
LiesIn old at = IfSome old (λ bytes. at ≤ length bytes)

length-laid : (old new : List TaggedByte) (at : ℕ) → at ≤ length old → (length old ≤ length (laid_over old at new)) × (at + length new ≤ length (laid_over old at new))
length-laid old new at h1 = grind (arith, common_steps, nat_tests, length-take-le, length-append, length-drop)

abbrev file_of : Option files.File → Option (List TaggedByte)
file_of o = option_map (λ f. f.bytes) o

abbrev rewritten_file : ℕ → List ℕ → ℕ → Option files.File → Option files.File
rewritten_file at bytes event o = option_map (rewritten at bytes event) o

-- where the file is there, and as many bytes fit
rewritten-is : (event at : ℕ) (bytes : List ℕ) (f : files.File) → take (fitting at (length bytes)) bytes ≡ bytes → (rewritten at bytes event f).bytes ≡ laid_over f.bytes at (held_bytes event bytes)
rewritten-is event at bytes f fits = ap (λ (bytes : List ℕ). laid_over f.bytes at (held_bytes event bytes)) fits

pub written-longer : (event file at : ℕ) (bytes : List ℕ) (fs : Files) → take (fitting at (length bytes)) bytes ≡ bytes → LiesIn (file_bytes fs file) at → (q position : ℕ) → LiesIn (file_bytes fs q) position → LiesIn (file_bytes (written fs file at bytes event) q) position
written-longer event file at bytes fs fits inside q position lies =
    subst (λ (o : Option files.File). LiesIn (file_of o) position) (sym (nth-change (option_map (rewritten at bytes event)) refl fs.all file q))
    (by_test (q == file) refl)
  where
    longer : (o : Option files.File) → LiesIn (file_of o) at → LiesIn (file_of o) position → LiesIn (file_of (rewritten_file at bytes event o)) position
    longer o h1 h2 = grind (arith, nat_tests, length-laid, rewritten-is)

    by_test : (b : Bool) → (q == file) ≡ b → LiesIn (file_of (cond b (rewritten_file at bytes event (nth fs.all q)) (nth fs.all q))) position
    by_test b h1 = grind (arith, nat_tests, longer, eqb-true)

-- the place behind what was written
pub written-behind : (event file at : ℕ) (bytes : List ℕ) (fs : Files) → take (fitting at (length bytes)) bytes ≡ bytes → LiesIn (file_bytes fs file) at → LiesIn (file_bytes (written fs file at bytes event) file) (at + length bytes)
written-behind event file at bytes fs fits inside =
    subst (λ (o : Option files.File). LiesIn (file_of o) (at + length bytes)) (sym (nth-change (option_map (rewritten at bytes event)) refl fs.all file file))
    (subst (λ (b : Bool). LiesIn (file_of (cond b (rewritten_file at bytes event (nth fs.all file)) (nth fs.all file))) (at + length bytes)) (sym (eq-eqb file file refl))
    (behind (nth fs.all file) inside))
  where
    behind : (o : Option files.File) → LiesIn (file_of o) at → LiesIn (file_of (rewritten_file at bytes event o)) (at + length bytes)
    behind o h1 = grind (arith, nat_tests, length-laid, length-held, rewritten-is)

written-fits : (event file at : ℕ) (bytes : List ℕ) (fs : Files) → take (fitting at (length bytes)) bytes ≡ bytes → LiesIn (file_bytes fs file) at → (what : Description) → FitsFiles fs what → FitsFiles (written fs file at bytes event) what
written-fits event file at bytes fs h1 h2 what h3 = grind (arith, common_steps, nat_tests, length-set, written-longer)

pub written-tells : (k : Kernel) (event file at : ℕ) (bytes : List ℕ) → take (fitting at (length bytes)) bytes ≡ bytes → file < length k.files.all → LiesIn (file_bytes k.files file) at → KernelTells k event bytes (Some (record { first = FileByte file at; len = length bytes })) NoLife NoName (Some (record { file = file; at = at; bytes = bytes })) (record k { files = written k.files file at bytes event })
written-tells k event file at bytes fits was inside =
    record {
      holds = holds;
      living = λ q. refl;
      names = λ path. refl;
      kept = λ q. subst (λ (o : Option files.File). FileKept event put q (file_bytes k.files q) (file_of o)) (sym (change q)) (kept q (q == file) refl (nth k.files.all q));
      last = record {
        made = let g = length-set k.files.all file (option_map (rewritten at bytes event) (nth k.files.all file)) in omega arith;
        gone = λ q made none. ap file_of (change q) ∙ still-gone (q == file) (nth k.files.all q) none;
      };
      writes = record { made = was; inside = inside };
      sound = λ s. record {
        fits = λ n. each (nth k.descriptions n) (s.fits n);
        named = λ path q e. let l = s.named path q e in let g = length-set k.files.all file (option_map (rewritten at bytes event) (nth k.files.all file)) in omega arith;
        there = λ path q e. ap (λ (o : Option files.File). is_some (file_of o)) (change q) ∙ still-there (q == file) (nth k.files.all q) (s.there path q e);
      };
      grows = omega arith;
      few = omega arith;
      unplugged = refl;
    }
  where
    put : Option Written
    put = Some (record { file = file; at = at; bytes = bytes })

    still-there : (b : Bool) (o : Option files.File) → is_some (file_of o) ≡ true → is_some (file_of (cond b (rewritten_file at bytes event o) o)) ≡ true
    still-there b o h1 = grind (arith, nat_tests)

    still-gone : (b : Bool) (o : Option files.File) → file_of o ≡ None → file_of (cond b (rewritten_file at bytes event o) o) ≡ None
    still-gone b o h1 = grind (arith, nat_tests)

    change : (q : ℕ) → nth (written k.files file at bytes event).all q ≡ cond (q == file) (rewritten_file at bytes event (nth k.files.all q)) (nth k.files.all q)
    change q = nth-change (option_map (rewritten at bytes event)) refl k.files.all file q

    each : (o : Option Opened) → IfSome o (λ o. FitsFiles k.files o.what) → IfSome o (λ o. FitsFiles (written k.files file at bytes event) o.what)
    each o h1 = grind (arith, nat_tests, written-fits)

    kept : (q : ℕ) (b : Bool) → (q == file) ≡ b → (o : Option files.File) → FileKept event (Some (record { file = file; at = at; bytes = bytes })) q (file_of o) (file_of (cond b (rewritten_file at bytes event o) o))
    kept q b h1 o = grind (arith, nat_tests, rewritten-is, eq-swap)

    own : (o : Option files.File) (n : ℕ) (h : TaggedByte) → LiesIn (file_of o) at → option_and_then (λ bytes. slice_get bytes n) (file_of (rewritten_file at bytes event o)) ≡ Some h → (put_byte event bytes (within at (length bytes) n) ≡ Some h) ⊎ ((within at (length bytes) n ≡ None) × (option_and_then (λ bytes. slice_get bytes n) (file_of o) ≡ Some h))
    own None n h l e = absurd (cc)
    own (Some f) n h l e = laid-put event at bytes f.bytes l n h (ap (λ (b : List TaggedByte). slice_get b n) (sym (rewritten-is event at bytes f fits)) ∙ e)

    none_if : (b : Bool) (n : ℕ) → b ≡ false → put_byte event bytes (within_if b at (length bytes) n) ≡ None
    none_if b n h1 = grind (arith, nat_tests)

    side : (q n : ℕ) (h : TaggedByte) (b : Bool) → b ≡ true → (put_byte event bytes (within at (length bytes) n) ≡ Some h) ⊎ ((within at (length bytes) n ≡ None) × (kernel_byte k (FileByte q n) ≡ Some h)) → (put_byte event bytes (within_if b at (length bytes) n) ≡ Some h) ⊎ ((put_byte event bytes (within_if b at (length bytes) n) ≡ None) × (kernel_byte k (FileByte q n) ≡ Some h))
    side q n h b h1 h2 = grind (arith, nat_tests)

    by_test : (q n : ℕ) (h : TaggedByte) (b : Bool) → (q == file) ≡ b → option_and_then (λ bytes. slice_get bytes n) (file_of (cond b (rewritten_file at bytes event (nth k.files.all q)) (nth k.files.all q))) ≡ Some h → (put_byte event bytes (within_if (file == q) at (length bytes) n) ≡ Some h) ⊎ ((put_byte event bytes (within_if (file == q) at (length bytes) n) ≡ None) × (kernel_byte k (FileByte q n) ≡ Some h))
    by_test q n h true t e = side q n h (file == q) (eq-swap file q ∙ t) (own (nth k.files.all q) n h (subst (λ (i : ℕ). LiesIn (file_bytes k.files i) at) (sym (eqb-true q file t)) inside) e)
    by_test q n h false t e = inr (none_if (file == q) n (eq-swap file q ∙ t), e)

    holds : HoldsAfter k event bytes (Some (record { first = FileByte file at; len = length bytes })) (record k { files = written k.files file at bytes event })
    holds (ConsoleByte n) h e = inr (refl, e)
    holds (PipeByte q n) h e = inr (refl, e)
    holds (FileByte q n) h e = by_test q n h (q == file) refl (ap (λ (o : Option files.File). option_and_then (λ bytes. slice_get bytes n) (file_of o)) (sym (change q)) ∙ e)
    holds (StatusByte q) h e = inr (refl, e)
