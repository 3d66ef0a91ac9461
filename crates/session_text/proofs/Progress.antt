-- A session in the middle of its text.
use Rattle.std.proofs.Common.{◌≡◌, ◌≢◌, ℕ, ◌+◌, ◌-◌, ◌^◌, ◌<◌, ◌≤◌, ◌||◌, ◌++◌, Bool, true, false, List, [], ◌∷◌, length, drop, Option, None, Some, IfSome, option_map, refl, sym, ap, ◌∙◌, subst, append_assoc, append-nil, arith, length-append}
use Rattle.std.proofs.lemmas.Bool.{false≢true}
use Rattle.std.proofs.lemmas.Option.{IfSome_then}
use Rattle.std.proofs.Math.Seq.{drop-append_seam}
use Rattle.arn_base.specs.declared.disk.Disk.{Ghosts}
use Rattle.arn_base.specs.declared.records.Differs.{Differs}
use Rattle.arn_base.specs.declared.records.Record.{Record}
use Rattle.arn_commands.specs.declared.command.Command.{Command}
use Rattle.arn_commands.specs.Commands.{Asks, EachAsks}
use Rattle.arn_commands.specs.Nexts.{IsWholePart, ReadsMore, ReadsLast, ReadsEnd, ReadsPart}
use Rattle.arn_commands.specs.Parts.{Part, text_parts, whole_parts}
use Rattle.arn_commands.specs.Reader.{ReaderState, fresh_reader, to_come, Uses, UsesSome, StopsShort, IsAtEnd}
use Rattle.history_model.specs.Unplugged.{unplugged_in}
use Rattle.log_model.specs.Records.{IsRun}
use Rattle.guest_legs.specs.Legs.{Picked}
use Rattle.session_effects.specs.Carrying.{CarriesOut}
use Rattle.session_effects.specs.Effects.{Effect, committed}
use Rattle.session_effects.specs.Standing.{Carries, IsOpen}
use Rattle.session_runs.specs.Points.{Advances}
use Rattle.session_effects.specs.declared.halt.Halt.{Halt}
use Rattle.session_runs.specs.Touches.{Answering, named_at, unplugs_in}
use Rattle.session_runs.specs.Turns.{Turn, finished}
use Rattle.session_commands.specs.Answering.{FindsNoRun, IsAnswered, IsHalted}
use Rattle.session_runs.specs.Standing.{Standpoint}
use Rattle.session_commands.specs.Cost.{cost, cost_of_turn}
use Rattle.session_commands.specs.Given.{Given, given}
use Rattle.session_commands.specs.Lines.{needs_machine, turn}
use Rattle.session_text.specs.Answered.{AnswersParts, AnswersTaken, TookAtMost, TookFewer}
use Rattle.session_text.specs.Gone.{GoneBefore, WereSpared}
use Rattle.session_text.specs.Transcript.{needs_any, total_cost, transcript}
use Rattle.session_text.proofs.PointLemmas.{Advances-as, Laws}
use Rattle.session_text.proofs.GoneLemmas.{GoneBefore-append, none-gone, turn-gone}
use Rattle.session_text.proofs.StandLemmas.{answered-as, found-as, halted-as, needs-stands}
use Rattle.session_text.proofs.TouchLemmas.{StandAs, spared-so, stand-after, unplugged-append}
use Rattle.session_text.proofs.TranscriptLemmas.{commits-none, cost-push, leads-more, needs-push, transcript-one}
use Rattle.session_text.proofs.UseLemmas.{Uses-append, Uses-none}

-- one more part asks for this
pub EachAsks-push : (parts : List Part) (commands : List Command) (part : Part) (command : Command) → EachAsks parts commands → Asks part command → EachAsks (parts ++ part ∷ []) (commands ++ command ∷ [])
EachAsks-push [] [] part command each asks = (asks, tt)
EachAsks-push (p ∷ parts) (c ∷ commands) part command each asks = (each.0, EachAsks-push parts commands part command each.1 asks)
EachAsks-push _ _ part command each asks = absurd each

-- what one of two tells
or-left : (a b : Bool) → (a || b) ≡ false → a ≡ false
or-left true b is = is
or-left false b is = refl

or-right : (a b : Bool) → (a || b) ≡ false → b ≡ false
or-right true b is = absurd (false≢true (sym is))
or-right false b is = is

-- whole parts of a text
pub parts-more : (seen bytes : List ℕ) (parts : List Part) (part : Part) → ((rest : List ℕ) → text_parts (seen ++ rest) ≡ parts ++ text_parts rest) → IsWholePart bytes part → (rest : List ℕ) → text_parts ((seen ++ bytes) ++ rest) ≡ (parts ++ part ∷ []) ++ text_parts rest
parts-more seen bytes parts part are whole rest =
    ap text_parts (append_assoc seen bytes rest) ∙ are (bytes ++ rest) ∙ ap (λ (x : List Part). parts ++ x) (whole.parts rest) ∙ sym (append_assoc parts (part ∷ []) (text_parts rest))

pub wholes-more : (seen bytes : List ℕ) (parts : List Part) (part : Part) → ((rest : List ℕ) → whole_parts (seen ++ rest) ≡ parts ++ whole_parts rest) → IsWholePart bytes part → (rest : List ℕ) → whole_parts ((seen ++ bytes) ++ rest) ≡ (parts ++ part ∷ []) ++ whole_parts rest
wholes-more seen bytes parts part are whole rest =
    ap whole_parts (append_assoc seen bytes rest) ∙ are (bytes ++ rest) ∙ ap (λ (x : List Part). parts ++ x) (whole.wholes rest) ∙ sym (append_assoc parts (part ∷ []) (whole_parts rest))

-- a whole part has some bytes
some_bytes : (bytes : List ℕ) (part : Part) → IsWholePart bytes part → length bytes ≢ 0
some_bytes [] part whole = λ none. cc (whole.parts [])
some_bytes (byte ∷ bytes) part whole = λ none. omega (arith, none)

-- so less is left to read
pub reads-less : {most : ℕ} {command : Command} {r r' : ReaderState} {l l' : Option (List ℕ)} → ReadsMore command r r' l l' → r'.taken ≤ most → (most + length r'.ahead) - r'.taken < (most + length r.ahead) - r.taken
reads-less read within = omega (arith, some_bytes read.bytes read.part read.is_whole, read.used.counted, within)

-- no bytes come before those that are left
come_nothing : (ahead : List ℕ) (left : Option (List ℕ)) → ahead ≡ [] → option_map (λ rest. ahead ++ rest) left ≡ left
come_nothing ahead None none = refl
come_nothing ahead (Some rest) none = ap (λ (x : List ℕ). Some (x ++ rest)) none

-- where no byte is ahead, those that were used are those that were taken
pub are_taken : (bytes : List ℕ) (reader : ReaderState) (l0 l : Option (List ℕ)) → Uses bytes fresh_reader reader l0 l → reader.ahead ≡ [] → l0 ≡ option_map (λ rest. bytes ++ rest) l
are_taken bytes reader l0 l used none =
    sym (come_nothing [] l0 refl) ∙ used.come ∙ ap (λ (o : Option (List ℕ)). option_map (λ rest. bytes ++ rest) o) (come_nothing reader.ahead l none)

pub count_taken : (bytes : List ℕ) (reader : ReaderState) (l0 l : Option (List ℕ)) → Uses bytes fresh_reader reader l0 l → reader.ahead ≡ [] → reader.taken ≡ length bytes
count_taken bytes reader l0 l used none = omega (arith, used.counted, ap length none)

-- the text was what was taken
pub text_taken : (l0 l : Option (List ℕ)) (bytes : List ℕ) → l0 ≡ option_map (λ rest. bytes ++ rest) l → IfSome l (λ rest. rest ≡ []) → IfSome l0 (λ text. (l ≡ Some []) × (text ≡ bytes))
text_taken l0 None bytes come none =
    let nothing : Option (List ℕ) = None in
    subst (λ (o : Option (List ℕ)). IfSome o (λ text. (nothing ≡ Some []) × (text ≡ bytes))) (sym come) tt
text_taken l0 (Some rest) bytes come none =
    let some : Option (List ℕ) = Some rest in
    subst (λ (o : Option (List ℕ)). IfSome o (λ text. (some ≡ Some []) × (text ≡ bytes))) (sym come) (ap (λ (x : List ℕ). Some x) none, ap (λ (x : List ℕ). bytes ++ x) none ∙ append-nil bytes)

-- how much of a text was taken
count_text : (l0 l : Option (List ℕ)) (bytes : List ℕ) → l0 ≡ option_map (λ rest. bytes ++ rest) l → IfSome l0 (λ text. (rest : List ℕ) × (l ≡ Some rest) × (text ≡ bytes ++ rest))
count_text l0 None bytes come =
    let nothing : Option (List ℕ) = None in
    subst (λ (o : Option (List ℕ)). IfSome o (λ text. (rest : List ℕ) × (nothing ≡ Some rest) × (text ≡ bytes ++ rest))) (sym come) tt
count_text l0 (Some rest) bytes come =
    let some : Option (List ℕ) = Some rest in
    subst (λ (o : Option (List ℕ)). IfSome o (λ text. (rest : List ℕ) × (some ≡ Some rest) × (text ≡ bytes ++ rest))) (sym come) (rest, refl, refl)

text_by : (bytes : List ℕ) (reader : ReaderState) (l0 l : Option (List ℕ)) → Uses bytes fresh_reader reader l0 l → reader.ahead ≡ [] → IfSome l0 (λ text. (rest : List ℕ) × (l ≡ Some rest) × (text ≡ bytes ++ rest))
text_by bytes reader l0 l used used_up = count_text l0 l bytes (are_taken bytes reader l0 l used used_up)

took_most : (most : ℕ) (text bytes rest : List ℕ) (l : Option (List ℕ)) → l ≡ Some rest → text ≡ bytes ++ rest → length bytes ≡ most → (most ≤ length text) × (l ≡ Some (drop most text))
took_most most text bytes rest l left is count = (omega (arith, count, ap length is, length-append bytes rest), left ∙ ap (λ (x : List ℕ). Some x) (sym (drop-append_seam bytes rest) ∙ ap (λ (n : ℕ). drop n (bytes ++ rest)) count ∙ ap (λ (x : List ℕ). drop most x) (sym is)))

-- those that came were taken
took_at_most : (most : ℕ) (bytes : List ℕ) (reader : ReaderState) (l0 l : Option (List ℕ)) → l0 ≡ option_map (λ rest. bytes ++ rest) (to_come reader l) → length bytes + length reader.ahead ≤ most → TookAtMost most l0 l
took_at_most most bytes reader l0 None come few =
    let nothing : Option (List ℕ) = None in
    subst (λ (o : Option (List ℕ)). TookAtMost most o nothing) (sym come) tt
took_at_most most bytes reader l0 (Some rest) come few =
    let some : Option (List ℕ) = Some rest in
    subst (λ (o : Option (List ℕ)). TookAtMost most o some) (sym come) (omega (arith, few, length-append bytes (reader.ahead ++ rest), length-append reader.ahead rest))

module _ {D A : Type 0} (d : Ghosts D) (who : Answering A) (g : Given) where
  -- These parts were answered: all that they ask for was carried out. The machine is there where one of them needed it, and else nothing was
  -- committed. What they cost is told whatever slices follow.
  pub record HaveAnswers (parts : List Part) (is_there : Bool) (old new : Standpoint D A) : Type 0 where
    pub commands : List Command
    pub each_asks : EachAsks parts commands
    pub cost : ℕ
    pub answered : Advances who (transcript g old.store.entries commands) finished old.around new.around cost (Carries IsRun d old.disk new.disk old.store new.store old.held new.held)
    pub costs : (rest : List Picked) → cost ≤ total_cost g old.store.entries commands (named_at answered.touches answered.slices ++ rest)
    pub needs : is_there ≡ needs_any g old.store.entries commands
    pub unmoved : is_there ≡ false → new.store.entries ≡ old.store.entries
    pub on_run : is_there ≡ true → IsRun old.store.entries
    pub stands : StandAs who g.filled new.store.entries new.around.answers
    pub gone : GoneBefore (unplugged_in old.store.entries) answered.touches

  -- more commands go on where these ended
  abbrev pub Advances-more : (old new : Standpoint D A) (parts : List Part) (is_there : Bool) (p : HaveAnswers parts is_there old new) (more : List Command) → Advances who (transcript g old.store.entries (p.commands ++ more)) (transcript g new.store.entries more) old.around new.around p.cost (Carries IsRun d old.disk new.disk old.store new.store old.held new.held)
  Advances-more old new parts is_there p more =
      let carried : List Effect → Type 0 = Carries IsRun d old.disk new.disk old.store new.store old.held new.held in
      Advances-as who (transcript g old.store.entries p.commands) (transcript g old.store.entries (p.commands ++ more)) finished (transcript g new.store.entries more) old.around new.around p.cost carried carried p.answered
      (leads-more g old.store.entries new.store.entries p.commands more (named_at p.answered.touches p.answered.slices) p.answered.effects p.answered.touches p.answered.carries.entries p.answered.leads)
      p.answered.carries

  -- what one more command costs
  pub costs-more : (old new : Standpoint D A) (parts : List Part) (is_there : Bool) (command : Command) (p : HaveAnswers parts is_there old new) (taken more : List Picked) → taken ≡ named_at p.answered.touches p.answered.slices ++ more → p.cost + cost_of_turn g is_there new.store.entries command (turn g new.store.entries command more) ≤ total_cost g old.store.entries (p.commands ++ command ∷ []) taken
  costs-more old new parts is_there command p taken more are =
      let costs = cost-push g old.store.entries new.store.entries p.commands command is_there (named_at p.answered.touches p.answered.slices) p.answered.effects p.answered.touches p.cost p.answered.carries.entries p.answered.leads p.needs p.unmoved p.costs more in
      subst (λ (x : List Picked). p.cost + cost_of_turn g is_there new.store.entries command (turn g new.store.entries command more) ≤ total_cost g old.store.entries (p.commands ++ command ∷ []) x) (sym are) costs

  HaveAnswers-none : (laws : Laws d who) (now : Standpoint D A) → StandAs who g.filled now.store.entries now.around.answers → IsOpen d now.store now.disk → HaveAnswers [] false now now
  HaveAnswers-none laws now stands open_now = record {
    commands = [];
    each_asks = tt;
    cost = 0;
    answered = laws.points.nothing finished now.around now.disk now.store now.held open_now;
    costs = λ rest. omega arith;
    needs = refl;
    unmoved = λ absent. refl;
    on_run = λ there. absurd (false≢true there);
    stands = stands;
    gone =
        let a = laws.points.nothing finished now.around now.disk now.store now.held open_now in
        none-gone (unplugged_in now.store.entries) a.touches [] (ap (λ (t : Turn). t.touches) (a.leads []));
  }

  -- the history behind a command
  there-behind : (is_there : Bool) (command : Command) (old new : Standpoint D A) (a : IsAnswered d who g is_there command old new) (rest : List Picked) → old.store.entries ++ committed (turn g old.store.entries command (named_at a.advances.touches a.advances.slices ++ rest)).effects ≡ new.store.entries
  there-behind is_there command old new a rest =
      let q = a.advances in
      ap (λ (t : Turn). old.store.entries ++ committed t.effects) (q.leads rest) ∙ ap (λ (e : List Effect). old.store.entries ++ committed e) (append-nil q.effects) ∙ sym q.carries.entries

  -- a command that needs no machine leaves the history
  still-there : (is_there : Bool) (command : Command) (old new : Standpoint D A) → IsAnswered d who g is_there command old new → needs_machine g old.store.entries command ≡ false → new.store.entries ≡ old.store.entries
  still-there is_there command old new a needless =
      let q = a.advances in
      sym (there-behind is_there command old new a [])
      ∙ ap (λ (x : List Record). old.store.entries ++ x) (commits-none g old.store.entries command (named_at q.touches q.slices ++ []) needless)
      ∙ append-nil old.store.entries

  -- the machine is there where one of the commands needed it
  needs-more : (is_there needed : Bool) (history there : List Record) (command : Command) → is_there ≡ needed → (is_there ≡ false → there ≡ history) → (is_there || needs_machine g there command) ≡ (needed || needs_machine g history command)
  needs-more true needed history there command is unmoved = ap (λ (b : Bool). b || needs_machine g history command) is
  needs-more false needed history there command is unmoved =
      ap (λ (h : List Record). false || needs_machine g h command) (unmoved refl) ∙ ap (λ (b : Bool). b || needs_machine g history command) is

  run-more : (is_there : Bool) (history there : List Record) (command : Command) → (is_there ≡ false → there ≡ history) → (is_there ≡ true → IsRun history) → (needs_machine g there command ≡ true → IsRun there) → (is_there || needs_machine g there command) ≡ true → IsRun history
  run-more true history there command unmoved was made needed = was refl
  run-more false history there command unmoved was made needed = subst IsRun (unmoved refl) (made needed)

  -- what is gone behind these parts
  pub gone-behind : (old mid : Standpoint D A) (parts : List Part) (is_there : Bool) (p : HaveAnswers parts is_there old mid) → unplugged_in mid.store.entries ≡ unplugged_in old.store.entries ++ unplugs_in p.answered.touches
  gone-behind old mid parts is_there p =
      let a = p.answered in
      ap unplugged_in a.carries.entries ∙ unplugged-append old.store.entries (committed a.effects) ∙ ap (λ (l : List ℕ). unplugged_in old.store.entries ++ l) a.unplugged

  -- a command asks no device that is gone
  gone-answered : (laws : Laws d who) (is_there : Bool) (command : Command) (mid new : Standpoint D A) (a : IsAnswered d who g is_there command mid new) → GoneBefore (unplugged_in mid.store.entries) a.advances.touches
  gone-answered laws is_there command mid new a =
      let q = a.advances in
      turn-gone laws.gone g mid.store.entries q.touches [] q.slices [] q.picked.many q.in_range command a.on_run (ap (λ (t : Turn). t.touches) (q.leads []))

  HaveAnswers-push : (laws : Laws d who) (old mid new : Standpoint D A) (parts : List Part) (is_there now_there : Bool) (part : Part) (command : Command) → now_there ≡ (is_there || needs_machine g mid.store.entries command) → Asks part command → HaveAnswers parts is_there old mid → IsAnswered d who g is_there command mid new → HaveAnswers (parts ++ part ∷ []) now_there old new
  HaveAnswers-push laws old mid new parts is_there now_there part command there asks p a =
      let h = old.store.entries in
      let t = mid.store.entries in
      let first = Advances-more old mid parts is_there p (command ∷ []) in
      let carried : List Effect → Type 0 = Carries IsRun d mid.disk new.disk mid.store new.store mid.held new.held in
      let second =
      Advances-as who (turn g t command) (transcript g t (command ∷ [])) finished finished mid.around new.around (cost g is_there t new.store.entries command) carried carried a.advances
      (λ rest. transcript-one g t command (named_at a.advances.touches a.advances.slices ++ rest) ∙ a.advances.leads rest) a.advances.carries in
      let both = laws.points.advances (transcript g h (p.commands ++ command ∷ [])) (transcript g t (command ∷ [])) finished old.around mid.around new.around p.cost (cost g is_there t new.store.entries command) old.disk mid.disk new.disk old.store mid.store new.store old.held mid.held new.held first second in
      record {
        commands = p.commands ++ command ∷ [];
        each_asks = EachAsks-push parts p.commands part command p.each_asks asks;
        cost = p.cost + cost g is_there t new.store.entries command;
        answered = both.advances;
        costs = λ rest.
            let taken : List Picked = named_at both.advances.touches both.advances.slices ++ rest in
            let more : List Picked = named_at a.advances.touches a.advances.slices ++ rest in
            subst (λ (x : List Record). p.cost + cost g is_there t x command ≤ total_cost g h (p.commands ++ command ∷ []) taken) (there-behind is_there command mid new a rest)
            (costs-more old mid parts is_there command p taken more (ap (λ (x : List Picked). x ++ rest) both.slices ∙ append_assoc (named_at p.answered.touches p.answered.slices) (named_at a.advances.touches a.advances.slices) rest));
        needs = there ∙ needs-more is_there (needs_any g h p.commands) h t command p.needs p.unmoved ∙ sym (needs-push g h p.commands command);
        unmoved = λ absent.
            let none = sym there ∙ absent in
            still-there is_there command mid new a (or-right is_there (needs_machine g t command) none) ∙ p.unmoved (or-left is_there (needs_machine g t command) none);
        on_run = λ here. run-more is_there h t command p.unmoved p.on_run a.on_run (sym there ∙ here);
        stands =
            stand-after who laws.kept g.filled t new.store.entries a.advances.effects a.advances.touches a.advances.slices mid.around.answers new.around.answers
            a.advances.carries.entries a.advances.unplugged a.advances.touched p.stands;
        gone = subst (GoneBefore (unplugged_in h)) (sym both.touches) (GoneBefore-append (unplugged_in h) p.answered.touches a.advances.touches p.gone (subst (λ (l : List ℕ). GoneBefore l a.advances.touches) (gone-behind old mid parts is_there p) (gone-answered laws is_there command mid new a)));
      }

  HaveAnswers-answers : (old new : Standpoint D A) (parts : List Part) (is_there : Bool) → HaveAnswers parts is_there old new → AnswersParts who g old.store.entries parts old.around new.around (CarriesOut IsRun d old.disk new.disk old.store.entries old.held new.held)
  HaveAnswers-answers old new parts is_there p = record {
    commands = p.commands;
    each_asks = p.each_asks;
    cost = p.cost;
    answered = Advances-as who (transcript g old.store.entries p.commands) (transcript g old.store.entries p.commands) finished finished old.around new.around p.cost (Carries IsRun d old.disk new.disk old.store new.store old.held new.held) (CarriesOut IsRun d old.disk new.disk old.store.entries old.held new.held) p.answered p.answered.leads p.answered.carries.out;
    costs = subst (λ (x : List Picked). p.cost ≤ total_cost g old.store.entries p.commands x) (append-nil (named_at p.answered.touches p.answered.slices)) (p.costs []);
    on_run = λ needed. p.on_run (p.needs ∙ needed);
    spared = p.gone;
  }

  -- those who answer for devices were touched for these parts
  pub were-touched : (laws : Laws d who) (old new : Standpoint D A) (parts : List Part) (is_there : Bool) → HaveAnswers parts is_there old new → WereSpared who (unplugged_in old.store.entries) old.around.answers new.around.answers
  were-touched laws old new parts is_there p =
      let a = p.answered in
      spared-so who laws.kept (unplugged_in old.store.entries) a.touches a.slices old.around.answers new.around.answers a.touched p.gone

  -- whole parts were read and answered
  pub record Progress (left left' : Option (List ℕ)) (reader : ReaderState) (is_there : Bool) (old new : Standpoint D A) : Type 0 where
    pub seen : List ℕ
    pub parts : List Part
    pub used : Uses seen fresh_reader reader left left'
    pub parts_are : (rest : List ℕ) → text_parts (seen ++ rest) ≡ parts ++ text_parts rest
    pub wholes_are : (rest : List ℕ) → whole_parts (seen ++ rest) ≡ parts ++ whole_parts rest
    pub answers : HaveAnswers parts is_there old new

  -- a whole text was read and answered
  pub record IsDone (left left' : Option (List ℕ)) (old new : Standpoint D A) : Type 0 where
    pub read : IfSome left (λ text. left' ≡ Some [])
    pub answered : IfSome left (λ text. AnswersParts who g old.store.entries (text_parts text) old.around new.around (CarriesOut IsRun d old.disk new.disk old.store.entries old.held new.held))
    pub short : IfSome left (λ text. length text < 2 ^ 40)
    pub out : (effects : List Effect) × CarriesOut IsRun d old.disk new.disk old.store.entries old.held new.held effects
    pub touched : WereSpared who (unplugged_in old.store.entries) old.around.answers new.around.answers

  done_by : (laws : Laws d who) (bytes : List ℕ) (parts : List Part) (reader : ReaderState) (l0 l : Option (List ℕ)) (is_there : Bool) (old new : Standpoint D A) → Uses bytes fresh_reader reader l0 l → IsAtEnd reader l → text_parts bytes ≡ parts → HaveAnswers parts is_there old new → IsDone l0 l old new
  done_by laws bytes parts reader l0 l is_there old new used end are answers =
      let all = text_taken l0 l bytes (are_taken bytes reader l0 l used end.short.used_up) end.none_left in
      let whole = HaveAnswers-answers old new parts is_there answers in
      record {
        read = IfSome_then l0 all (λ text f. f.0);
        answered = IfSome_then l0 all (λ text f. subst (λ (x : List Part). AnswersParts who g old.store.entries x old.around new.around (CarriesOut IsRun d old.disk new.disk old.store.entries old.held new.held)) (sym (ap text_parts f.1 ∙ are)) whole);
        short = IfSome_then l0 all (λ text f. omega (arith, ap length f.1, end.short.some_room, count_taken bytes reader l0 l used end.short.used_up));
        out = (answers.answered.effects, answers.answered.carries.out);
        touched = were-touched laws old new parts is_there answers;
      }

module _ {D A : Type 0} {d : Ghosts D} {who : Answering A} {g : Given} where
  pub Progress-start : {left : Option (List ℕ)} {now : Standpoint D A} (laws : Laws d who) → StandAs who g.filled now.store.entries now.around.answers → IsOpen d now.store now.disk → Progress d who g left left fresh_reader false now now
  Progress-start {left = left} {now = now} laws stands open_now = record {
    seen = [];
    parts = [];
    used = Uses-none fresh_reader left;
    parts_are = λ rest. refl;
    wholes_are = λ rest. refl;
    answers = HaveAnswers-none d who g laws now stands open_now;
  }

  -- what was done by the devices as they are was done by those that were there at first
  pub answered-stands : {parts : List Part} {is_there : Bool} {old mid new : Standpoint D A} {command : Command} → HaveAnswers d who g parts is_there old mid → IsAnswered d who (given g.told (who.filled mid.around.answers)) is_there command mid new → IsAnswered d who g is_there command mid new
  answered-stands {is_there = is_there} {mid = mid} {new = new} {command = command} p a = answered-as d who g is_there command mid new p.stands a

  pub halted-stands : {parts : List Part} {is_there : Bool} {old mid new : Standpoint D A} {command : Command} {why : Halt} → HaveAnswers d who g parts is_there old mid → IsHalted d who (given g.told (who.filled mid.around.answers)) is_there why command mid new → IsHalted d who g is_there why command mid new
  halted-stands {is_there = is_there} {mid = mid} {new = new} {command = command} {why = why} p b = halted-as d who g is_there command mid new p.stands why b

  pub found-stands : {parts : List Part} {is_there : Bool} {old mid new : Standpoint D A} {command : Command} {at : Differs} → HaveAnswers d who g parts is_there old mid → FindsNoRun (given g.told (who.filled mid.around.answers)) is_there at command mid new → FindsNoRun g is_there at command mid new
  found-stands {is_there = is_there} {mid = mid} {new = new} {command = command} {at = at} p f = found-as d who g is_there command mid new p.stands at f

  pub there-stands : {parts : List Part} {is_there now_there : Bool} {old mid : Standpoint D A} (command : Command) → HaveAnswers d who g parts is_there old mid → now_there ≡ (is_there || needs_machine (given g.told (who.filled mid.around.answers)) mid.store.entries command) → now_there ≡ (is_there || needs_machine g mid.store.entries command)
  there-stands {is_there = is_there} {mid = mid} command p there =
      there ∙ ap (λ (b : Bool). is_there || b) (needs-stands who g mid.store.entries mid.around.answers p.stands command)

  -- one more part was read and answered
  pub Progress-part : {l0 l1 l2 : Option (List ℕ)} {r r' : ReaderState} {is_there now_there : Bool} {old mid new : Standpoint D A} {command : Command} (laws : Laws d who) → now_there ≡ (is_there || needs_machine g mid.store.entries command) → Progress d who g l0 l1 r is_there old mid → ReadsMore command r r' l1 l2 → IsAnswered d who g is_there command mid new → Progress d who g l0 l2 r' now_there old new
  Progress-part {l0 = l0} {l1 = l1} {l2 = l2} {r = r} {r' = r'} {is_there = is_there} {now_there = now_there} {old = old} {mid = mid} {new = new} {command = command} laws there p read a = record {
    seen = p.seen ++ read.bytes;
    parts = p.parts ++ read.part ∷ [];
    used = Uses-append p.seen read.bytes fresh_reader r r' l0 l1 l2 p.used read.used;
    parts_are = parts-more p.seen read.bytes p.parts read.part p.parts_are read.is_whole;
    wholes_are = wholes-more p.seen read.bytes p.parts read.part p.wholes_are read.is_whole;
    answers = HaveAnswers-push d who g laws old mid new p.parts is_there now_there read.part command there read.asks p.answers a;
  }

  -- the text ended behind a whole part
  pub IsDone-end : {l0 l1 l2 : Option (List ℕ)} {r r' : ReaderState} {is_there : Bool} {old new : Standpoint D A} (laws : Laws d who) → Progress d who g l0 l1 r is_there old new → ReadsEnd r r' l1 l2 → IsDone d who g l0 l2 old new
  IsDone-end {l0 = l0} {l1 = l1} {l2 = l2} {r = r} {r' = r'} {is_there = is_there} {old = old} {new = new} laws p read =
      done_by d who g laws (p.seen ++ []) p.parts r' l0 l2 is_there old new (Uses-append p.seen [] fresh_reader r r' l0 l1 l2 p.used read.used) read.at_end (p.parts_are [] ∙ append-nil p.parts) p.answers

  -- the text ended with a part
  pub IsDone-last : {l0 l1 l2 : Option (List ℕ)} {r r' : ReaderState} {is_there : Bool} {old mid new : Standpoint D A} {command : Command} (laws : Laws d who) → Progress d who g l0 l1 r is_there old mid → ReadsLast command r r' l1 l2 → IsAnswered d who g is_there command mid new → IsDone d who g l0 l2 old new
  IsDone-last {l0 = l0} {l1 = l1} {l2 = l2} {r = r} {r' = r'} {is_there = is_there} {old = old} {mid = mid} {new = new} {command = command} laws p read a =
      done_by d who g laws (p.seen ++ read.bytes) (p.parts ++ read.part ∷ []) r' l0 l2 (is_there || needs_machine g mid.store.entries command) old new (Uses-append p.seen read.bytes fresh_reader r r' l0 l1 l2 p.used read.used) read.at_end
      (p.parts_are read.bytes ∙ ap (λ (x : List Part). p.parts ++ x) read.is_last)
      (HaveAnswers-push d who g laws old mid new p.parts is_there (is_there || needs_machine g mid.store.entries command) read.part command refl read.asks p.answers a)

  -- the source gave some of its text
  pub AnswersTaken-part : {l0 l1 l2 : Option (List ℕ)} {r r' : ReaderState} {is_there : Bool} {old new : Standpoint D A} → Progress d who g l0 l1 r is_there old new → ReadsPart r r' l1 l2 → r'.ahead ≡ [] → AnswersTaken who g old.store.entries l0 l2 whole_parts old.around new.around (CarriesOut IsRun d old.disk new.disk old.store.entries old.held new.held)
  AnswersTaken-part {l0 = l0} {l1 = l1} {l2 = l2} {r = r} {r' = r'} {is_there = is_there} {old = old} {new = new} p read used_up =
      let bytes : List ℕ = p.seen ++ read.bytes in
      let parts : p.parts ≡ whole_parts bytes = sym (p.wholes_are read.bytes ∙ ap (λ (x : List Part). p.parts ++ x) read.none_whole ∙ append-nil p.parts) in
      record {
        taken = bytes;
        is_taken = are_taken bytes r' l0 l2 (Uses-append p.seen read.bytes fresh_reader r r' l0 l1 l2 p.used read.used) used_up;
        answered = subst (λ (x : List Part). AnswersParts who g old.store.entries x old.around new.around (CarriesOut IsRun d old.disk new.disk old.store.entries old.held new.held)) parts (HaveAnswers-answers d who g old new p.parts is_there p.answers);
      }

  pub TookFewer-part : {l0 l1 l2 : Option (List ℕ)} {r r' : ReaderState} {is_there : Bool} {old new : Standpoint D A} → Progress d who g l0 l1 r is_there old new → ReadsPart r r' l1 l2 → StopsShort r' → TookFewer (2 ^ 40) l0 l2
  TookFewer-part {l0 = l0} {l1 = l1} {l2 = l2} {r = r} {r' = r'} {is_there = is_there} {old = old} {new = new} p read short =
      let bytes : List ℕ = p.seen ++ read.bytes in
      let used = Uses-append p.seen read.bytes fresh_reader r r' l0 l1 l2 p.used read.used in
      let fewer : length bytes < 2 ^ 40 = omega (arith, short.some_room, count_taken bytes r' l0 l2 used short.used_up) in
      IfSome_then l0 (text_by bytes r' l0 l2 used short.used_up) (λ text f. subst (λ (o : Option (List ℕ)). IfSome o (λ rest. length text < 2 ^ 40 + length rest)) (sym f.1) (omega (arith, fewer, ap length f.2, length-append bytes f.0)))

  pub TookMost-part : {most : ℕ} {l0 l1 l2 : Option (List ℕ)} {r r' : ReaderState} {is_there : Bool} {old new : Standpoint D A} → Progress d who g l0 l1 r is_there old new → ReadsPart r r' l1 l2 → r'.ahead ≡ [] → r'.taken ≡ most → IfSome l0 (λ text. (most ≤ length text) × (l2 ≡ Some (drop most text)))
  TookMost-part {most = most} {l0 = l0} {l1 = l1} {l2 = l2} {r = r} {r' = r'} {is_there = is_there} {old = old} {new = new} p read used_up taken =
      let bytes : List ℕ = p.seen ++ read.bytes in
      let used = Uses-append p.seen read.bytes fresh_reader r r' l0 l1 l2 p.used read.used in
      IfSome_then l0 (text_by bytes r' l0 l2 used used_up) (λ text f. took_most most text bytes f.0 l2 f.1 f.2 (sym (count_taken bytes r' l0 l2 used used_up) ∙ taken))

  pub TookAtMost-part : {l0 l1 l2 : Option (List ℕ)} {r r' : ReaderState} {is_there : Bool} {old new : Standpoint D A} → Progress d who g l0 l1 r is_there old new → UsesSome r r' l1 l2 → r'.taken ≤ 2 ^ 40 → TookAtMost (2 ^ 40) l0 l2
  TookAtMost-part {l0 = l0} {l1 = l1} {l2 = l2} {r = r} {r' = r'} {is_there = is_there} {old = old} {new = new} p more within =
      let used = Uses-append p.seen more.bytes fresh_reader r r' l0 l1 l2 p.used more.used in
      took_at_most (2 ^ 40) (p.seen ++ more.bytes) r' l0 l2 (sym (come_nothing [] l0 refl) ∙ used.come) (omega (arith, used.counted, within))
