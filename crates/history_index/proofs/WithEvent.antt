-- What one more event leaves of the tables of processes and groups.
use Rattle.std.proofs.Common.{◌≡◌, ◌≢◌, inl, inr, ℕ, zero, suc, ◌+◌, ◌≤◌, ◌==◌, ◌&&◌, Bool, true, false, if◌then◌else◌, List, [], ◌∷◌, ◌++◌, length, filter, slice_get, Option, Some, None, IfSome, refl, ap, sym, ◌∙◌, arith, length-append, length-set, add-zero, append-nil}
use Rattle.std.specs.List.{range_with_len}
use Rattle.std.proofs.lemmas.Bool.Decides.{eqb_tells}
use Rattle.std.proofs.lemmas.List.Elements.{filter-append}
use Rattle.arn_base.specs.declared.records.Record.{Record}
use Rattle.arn_base.specs.declared.records.Record.TheVariants as entry
use Rattle.parts_model.specs.Numbered.{nth}
use Rattle.acts_model.specs.Records.{is_event}
use Rattle.history_model.specs.Broken.{greatest}
use Rattle.history_model.specs.Events.{events, how_many}
use Rattle.history_model.specs.Groups.{Groups, groups_told, group_of, count_from, count_of, is_number, ran_for}
use Rattle.history_model.specs.Moments.{ran_in, total, lives_at, changed}
use Rattle.replay_groups.specs.Groups.{group_at}
use Rattle.history_index.specs.declared.slices.SliceAt.{SliceAt}
use Rattle.history_index.specs.After.{with_end}
use Rattle.history_index.specs.Families.{Families, lives_in, run_in, with_process}
use Rattle.history_index.specs.Indexes.{TellsFamilies, AreMade, IsFounded}
use Rattle.history_index.specs.Lookups.{begin_after, slice_in, slices_from, slices_of, groups_in, founds, founding_event}
use Rattle.history_index.specs.Runs.{Run, no_run}
use Rattle.history_index.proofs.Foundings.{founding-push, founding-stays}
use Rattle.history_index.proofs.Snoc.{groups-snoc, slices-snoc, count-snoc}

-- an event is no slice
pub record IsPlain (e : Record) : Type 0 where
  pub ran : ran_in e ≡ 0
  pub begin : (begins ends : ℕ) → begin_after begins ends e ≡ begins
  pub slice : (place moment event : ℕ) → slice_in place moment event e [] ≡ []
  pub count : (g : ℕ) (groups : Groups) → ran_for g groups e ≡ 0
  pub made : (n : ℕ) → AreMade n (e ∷ [])

pub plain : (e : Record) → is_event e ≡ true → IsPlain e
plain (entry.Slice pid ran) is = cc
plain _ is = record { ran = refl; begin = λ b m. refl; slice = λ p m n. refl; count = λ g gs. refl; made = λ n. tt }

-- processes of slices, where there are more processes and more records
made-append : (n m : ℕ) (entries rest : List Record) → n ≤ m → AreMade n entries → AreMade m rest → AreMade m (entries ++ rest)
made-append n m [] rest more made later = later
made-append n m (entry.Slice p r ∷ entries) rest more made later = (omega (arith, made.0), made-append n m entries rest more made.1 later)
made-append n m (_ ∷ entries) rest more made later = made-append n m entries rest more made later

-- the processes of slices have the groups that they had
module _ (n : ℕ) (before after : Groups) (same : (pid : ℕ) → pid ≤ n → after pid ≡ before pid) where
  count-agree : (g : ℕ) (entries : List Record) → AreMade n entries → count_from g after entries ≡ count_from g before entries
  count-agree g [] made = refl
  count-agree g (entry.Slice p ran ∷ entries) made =
      ap (λ (o : Option ℕ). (if is_number g o then ran else 0) + count_from g after entries) (same p made.0)
      ∙ ap (λ (k : ℕ). (if is_number g (before p) then ran else 0) + k) (count-agree g entries made.1)
  count-agree g (_ ∷ entries) made = ap (λ (k : ℕ). 0 + k) (count-agree g entries made)

  kept : ℕ → Groups → List SliceAt → List SliceAt
  kept g groups xs = filter (λ s. is_number g (groups s.pid)) xs

  slices-agree : (g place moment event : ℕ) (entries : List Record) → AreMade n entries → kept g after (slices_from place moment event entries) ≡ kept g before (slices_from place moment event entries)
  unfolding kept
  slices-agree g place moment event [] made = refl
  slices-agree g place moment event (entry.Slice p ran ∷ entries) made =
      rw (same p made.0, slices-agree g (place + 1) (moment + ran) (event + 0) entries made.1) refl
  slices-agree g place moment event (_ ∷ entries) made = slices-agree g (place + 1) (moment + 0) (event + 1) entries made

  founders-agree : (a k : ℕ) → a + k ≤ n + 1 → filter (λ q. is_number q (after q)) (range_with_len a k) ≡ filter (λ q. is_number q (before q)) (range_with_len a k)
  founders-agree a zero within = refl
  founders-agree a (suc k) within =
      let here = same a (omega arith) in rw (here, founders-agree (a + 1) k (omega arith)) refl

-- the counts and slices behind an event, where the groups of earlier processes stay
module _ (n : ℕ) (entries : List Record) (e : Record) (p : IsPlain e) (made : AreMade n entries) (same : (pid : ℕ) → pid ≤ n → groups_told e (group_of entries) pid ≡ group_of entries pid) where
  counts-kept : (g : ℕ) → count_of (entries ++ e ∷ []) g ≡ count_of entries g
  counts-kept g =
      ap (λ (groups : Groups). count_from g groups (entries ++ e ∷ [])) (groups-snoc (λ q. None) entries e)
      ∙ count-snoc g (groups_told e (group_of entries)) entries e
      ∙ ap (λ (k : ℕ). count_from g (groups_told e (group_of entries)) entries + k) (p.count g (groups_told e (group_of entries)))
      ∙ add-zero (count_from g (groups_told e (group_of entries)) entries)
      ∙ count-agree n (group_of entries) (groups_told e (group_of entries)) same g entries made

  slices-kept : (g : ℕ) → slices_of (entries ++ e ∷ []) g ≡ slices_of entries g
  unfolding kept
  slices-kept g =
      ap (λ (groups : Groups). filter (λ s. is_number g (groups s.pid)) (slices_from 0 0 0 (entries ++ e ∷ []))) (groups-snoc (λ q. None) entries e)
      ∙ ap (filter (λ s. is_number g (groups_told e (group_of entries) s.pid)))
      (slices-snoc 0 0 0 entries e ∙ ap (λ (xs : List SliceAt). slices_from 0 0 0 entries ++ xs) (p.slice (0 + length entries) (0 + total entries) (0 + how_many entries)) ∙ append-nil (slices_from 0 0 0 entries))
      ∙ slices-agree n (group_of entries) (groups_told e (group_of entries)) same g 0 0 0 entries made

-- the tables of processes and groups, but for who lives
pub record TellsGroups (f : Families) (entries : List Record) : Type 0 where
  pub processes : length f.groups ≡ greatest entries
  pub as_many_lives : length f.lives ≡ length f.groups + 1
  pub as_many_runs : length f.runs ≡ length f.groups + 1
  pub as_many_foundings : length f.foundings ≡ length f.groups + 1
  pub groups : (pid : ℕ) → group_at f.groups pid ≡ group_of entries pid
  pub founded : (i : ℕ) → IfSome (slice_get f.groups i) (IsFounded (length f.groups))
  pub counts : (group : ℕ) → (run_in f.runs group).count ≡ count_of entries group
  pub slices : (group : ℕ) → (run_in f.runs group).slices ≡ slices_of entries group
  pub founders : f.founders ≡ groups_in entries
  pub foundings : (group : ℕ) → nth f.foundings group ≡ founding_event entries group
  pub made : AreMade (length f.groups) entries

-- with who lives
pub with-lives : (f : Families) (ended : Option ℕ) (entries : List Record) → TellsGroups f entries → lives_in (with_end f ended).lives 0 ≡ false → ((q : ℕ) → lives_in (with_end f ended).lives q ≡ lives_at entries (total entries) q) → TellsFamilies (with_end f ended) entries
with-lives f None entries g zero-lives told = record {
  processes = g.processes;
  as_many_lives = g.as_many_lives;
  as_many_runs = g.as_many_runs;
  as_many_foundings = g.as_many_foundings;
  foundings = g.foundings;
  groups = g.groups;
  founded = g.founded;
  no_zero = zero-lives;
  lives = told;
  counts = g.counts;
  slices = g.slices;
  founders = g.founders;
  made = g.made;
}
with-lives f (Some pid) entries g zero-lives told = record {
  processes = g.processes;
  as_many_lives = simp length-set g.as_many_lives;
  as_many_runs = g.as_many_runs;
  as_many_foundings = g.as_many_foundings;
  foundings = g.foundings;
  groups = g.groups;
  founded = g.founded;
  no_zero = zero-lives;
  lives = told;
  counts = g.counts;
  slices = g.slices;
  founders = g.founders;
  made = g.made;
}

-- an event that makes no process
pub stays-told : (f : Families) (entries : List Record) (e : Record) → IsPlain e → TellsFamilies f entries → events (entries ++ e ∷ []) ≡ events entries ++ e ∷ [] → ((h : ℕ) → founds h e ≡ false) → groups_told e (group_of entries) ≡ group_of entries → greatest (entries ++ e ∷ []) ≡ greatest entries → TellsGroups f (entries ++ e ∷ [])
stays-told f entries e p t kept none same stays =
    let each : (pid : ℕ) → pid ≤ length f.groups → groups_told e (group_of entries) pid ≡ group_of entries pid = λ pid h. ap (λ (groups : Groups). groups pid) same in
    record {
      processes = t.processes ∙ sym stays;
      as_many_lives = t.as_many_lives;
      as_many_runs = t.as_many_runs;
      as_many_foundings = t.as_many_foundings;
      foundings = λ h. t.foundings h ∙ sym (founding-stays entries e h kept (none h));
      groups = λ q. t.groups q ∙ sym (ap (λ (groups : Groups). groups q) (groups-snoc (λ p. None) entries e ∙ same));
      founded = t.founded;
      counts = λ g. t.counts g ∙ sym (counts-kept (length f.groups) entries e p t.made each g);
      slices = λ g. t.slices g ∙ sym (slices-kept (length f.groups) entries e p t.made each g);
      founders = t.founders ∙ sym (
          ap (λ (groups : Groups). filter (λ q. is_number q (groups q)) (range_with_len 1 (greatest (entries ++ e ∷ [])))) (groups-snoc (λ p. None) entries e ∙ same)
          ∙ ap (λ (k : ℕ). filter (λ q. is_number q (group_of entries q)) (range_with_len 1 k)) stays);
      made = made-append (length f.groups) (length f.groups) entries (e ∷ []) (omega arith) t.made (p.made (length f.groups));
    }

range-push : (a k : ℕ) → range_with_len a (k + 1) ≡ range_with_len a k ++ (a + k) ∷ []
range-push a zero = rw add-zero refl
range-push a (suc k) =
    let more : suc k + 1 ≡ suc (k + 1) = omega arith in
    let same : a + 1 + k ≡ a + suc k = omega arith in
    rw more (ap (λ (xs : List ℕ). a ∷ xs) (range-push (a + 1) k ∙ ap (λ (j : ℕ). range_with_len (a + 1) k ++ j ∷ []) same))

group-last : (groups : List ℕ) (g i : ℕ) → i ≡ length groups → slice_get (groups ++ g ∷ []) i ≡ Some g
group-last [] g zero is = refl
group-last (h ∷ groups) g (suc i) is = group-last groups g i (omega arith)
group-last _ g _ is = absurd (omega arith)

group-front : (groups : List ℕ) (g i : ℕ) → i ≢ length groups → slice_get (groups ++ g ∷ []) i ≡ slice_get groups i
group-front [] g zero differs = absurd (differs refl)
group-front (h ∷ groups) g (suc i) differs = group-front groups g i (λ e. differs (ap suc e))
group-front _ g _ differs = refl

group-push : (groups : List ℕ) (g pid : ℕ) → group_at (groups ++ g ∷ []) pid ≡ (if pid == length groups + 1 then Some g else group_at groups pid)
group-push groups g zero = elim (eqb_tells zero (length groups + 1)) [ inl h ↦ absurd (omega arith) | inr h ↦ rw h.0 refl ]
group-push groups g (suc i) =
    elim (eqb_tells (suc i) (length groups + 1)) [
      | inl h ↦ let last : i ≡ length groups = omega arith in rw h.0 (group-last groups g i last)
      | inr h ↦ let apart : i ≢ length groups = λ e. h.1 (omega arith) in rw h.0 (group-front groups g i apart)
    ]

founded-more : (n : ℕ) (o : Option ℕ) → IfSome o (IsFounded n) → IfSome o (IsFounded (n + 1))
founded-more n None is = tt
founded-more n (Some g) is = (is.0, omega (arith, is.1))

founded-push : (groups : List ℕ) (g n : ℕ) → ((i : ℕ) → IfSome (slice_get groups i) (IsFounded n)) → IsFounded (n + 1) g → (i : ℕ) → IfSome (slice_get (groups ++ g ∷ []) i) (IsFounded (n + 1))
founded-push groups g n all is i =
    elim (eqb_tells i (length groups)) [
      | inl h ↦ rw (group-last groups g i h.1) is
      | inr h ↦ rw (group-front groups g i h.1) (founded-more n (slice_get groups i) (all i))
    ]

-- one more group that hasn't run
run-push : (runs : List Run) (g : ℕ) → run_in (runs ++ no_run ∷ []) g ≡ run_in runs g
run-push [] zero = refl
run-push [] (suc g) = refl
run-push (r ∷ runs) zero = refl
run-push (r ∷ runs) (suc g) = run-push runs g

if-list : (b : Bool) (xs : List ℕ) (x : ℕ) → (if b then xs ++ x ∷ [] else xs) ≡ xs ++ (if b then x ∷ [] else [])
if-list true xs x = refl
if-list false xs x = sym (append-nil xs)

-- an event that makes the next process, of a group
pub next-told : (f : Families) (event : ℕ) (entries : List Record) (e : Record) (g : ℕ) → IsPlain e → TellsFamilies f entries → event ≡ how_many entries → events (entries ++ e ∷ []) ≡ events entries ++ e ∷ [] → ((h : ℕ) → founds h e ≡ ((h == greatest entries + 1) && (g == greatest entries + 1))) → groups_told e (group_of entries) ≡ changed (group_of entries) (greatest entries + 1) (Some g) → greatest (entries ++ e ∷ []) ≡ greatest entries + 1 → IsFounded (greatest entries + 1) g → TellsGroups (with_process f event g) (entries ++ e ∷ [])
next-told f event entries e g p t number kept first told more founded =
    let n = length f.groups in
    let processes = t.processes in
    let each : (pid : ℕ) → pid ≤ n → groups_told e (group_of entries) pid ≡ group_of entries pid = λ pid h.
    ap (λ (groups : Groups). groups pid) told
    ∙ elim (eqb_tells pid (greatest entries + 1)) [ inl k ↦ absurd (omega arith) | inr k ↦ rw k.0 refl ] in
    let longer : length (f.groups ++ g ∷ []) ≡ n + 1 = length-append f.groups (g ∷ []) in
    let after : Groups = changed (group_of entries) (greatest entries + 1) (Some g) in
    let next : length f.lives ≡ greatest entries + 1 = omega (arith, t.as_many_lives) in
    record {
      processes = longer ∙ ap (λ (k : ℕ). k + 1) processes ∙ sym more;
      as_many_lives = length-append f.lives (true ∷ []) ∙ ap (λ (k : ℕ). k + 1) (t.as_many_lives ∙ sym longer);
      as_many_runs = length-append f.runs (no_run ∷ []) ∙ ap (λ (k : ℕ). k + 1) (t.as_many_runs ∙ sym longer);
      as_many_foundings = length-append f.foundings ((if g == length f.lives then Some event else None) ∷ []) ∙ ap (λ (k : ℕ). k + 1) (t.as_many_foundings ∙ sym longer);
      foundings = λ h.
          founding-push f.foundings (length f.lives) event g h entries e (t.as_many_foundings ∙ sym t.as_many_lives) number kept t.foundings
          (first h ∙ ap (λ (k : ℕ). (h == k) && (g == k)) (sym next));
      groups = λ q.
          group-push f.groups g q
          ∙ ap (λ (k : ℕ). if q == k + 1 then Some g else group_at f.groups q) processes
          ∙ ap (λ (o : Option ℕ). if q == greatest entries + 1 then Some g else o) (t.groups q)
          ∙ sym (ap (λ (groups : Groups). groups q) (groups-snoc (λ p. None) entries e ∙ told));
      founded = rw longer (founded-push f.groups g n t.founded (rw (← processes) at founded));
      counts = λ h. ap (λ (r : Run). r.count) (run-push f.runs h) ∙ t.counts h ∙ sym (counts-kept n entries e p t.made each h);
      slices = λ h. ap (λ (r : Run). r.slices) (run-push f.runs h) ∙ t.slices h ∙ sym (slices-kept n entries e p t.made each h);
      founders =
          if-list (g == length f.lives) f.founders g
          ∙ ap (λ (xs : List ℕ). xs ++ (if g == length f.lives then g ∷ [] else [])) t.founders
          ∙ sym (
          ap (λ (groups : Groups). filter (λ q. is_number q (groups q)) (range_with_len 1 (greatest (entries ++ e ∷ [])))) (groups-snoc (λ p. None) entries e)
          ∙ ap (λ (k : ℕ). filter (λ q. is_number q (groups_told e (group_of entries) q)) (range_with_len 1 k)) more
          ∙ ap (filter (λ q. is_number q (groups_told e (group_of entries) q))) (range-push 1 (greatest entries))
          ∙ filter-append (λ q. is_number q (groups_told e (group_of entries) q)) (range_with_len 1 (greatest entries)) ((1 + greatest entries) ∷ [])
          ∙ ap (λ (xs : List ℕ). xs ++ filter (λ q. is_number q (groups_told e (group_of entries) q)) ((1 + greatest entries) ∷ [])) (founders-agree n (group_of entries) (groups_told e (group_of entries)) each 1 (greatest entries) (omega arith))
          ∙ ap (λ (xs : List ℕ). groups_in entries ++ xs) (last-founder f entries e g told next));
      made = rw longer (made-append n (n + 1) entries (e ∷ []) (omega arith) t.made (p.made (n + 1)));
    }
  where
    last-founder : (f : Families) (entries : List Record) (e : Record) (g : ℕ) → groups_told e (group_of entries) ≡ changed (group_of entries) (greatest entries + 1) (Some g) → length f.lives ≡ greatest entries + 1
        → filter (λ q. is_number q (groups_told e (group_of entries) q)) ((1 + greatest entries) ∷ []) ≡ (if g == length f.lives then g ∷ [] else [])
    last-founder f entries e g told next =
        let same : 1 + greatest entries ≡ length f.lives = omega arith in
        let is : groups_told e (group_of entries) (length f.lives) ≡ Some g =
        ap (λ (groups : Groups). groups (length f.lives)) told
        ∙ elim (eqb_tells (length f.lives) (greatest entries + 1)) [ inl k ↦ rw k.0 refl | inr k ↦ absurd (k.1 next) ] in
        rw same (rw is (elim (eqb_tells g (length f.lives)) [ inl k ↦ rw (k.0, k.1) refl | inr k ↦ rw k.0 refl ]))
