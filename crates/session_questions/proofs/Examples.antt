-- Literal examples of what is printed for questions.
use Rattle.std.proofs.Common.{◌≡◌, [], ◌∷◌, List, refl, codes}
use Rattle.arn_base.specs.declared.records.Extra.TheVariants as extra
use Rattle.arn_base.specs.declared.records.Record.{Record}
use Rattle.arn_base.specs.declared.records.Record.TheVariants as entry
use Rattle.arn_lines.specs.declared.line.Aspect.TheVariants as aspect
use Rattle.arn_lines.specs.declared.line.Question.TheVariants as question
use Rattle.arn_lines.specs.declared.line.Sought.TheVariants as sought
use Rattle.arn_lines.specs.Texts.{damaged_text}
use Rattle.generator.specs.Sums.{gen_text}
use Rattle.parts_model.specs.declared.calls.TheConstants.{WRITE}
use Rattle.rv64_model.specs.declared.linkage.Linkage.TheVariants.{Copy, Data}
use Rattle.session_questions.specs.Generated.{generated_cost, generated_text, writes}
use Rattle.session_questions.specs.Texts.{question_cost, question_text}

-- no record tells an event yet
no_event : question_text [] (question.Back Copy (sought.Event 0 0 1)) ≡ codes "no point\n"
no_event = refl

-- a file of two bytes was brought
a_file : List Record
a_file = entry.File (97 ∷ []) (1 ∷ 2 ∷ []) ∷ []

-- no file has another name, and there is no later moment
other_name : question_text a_file (question.Show 0 (aspect.File (98 ∷ []))) ≡ codes "no point\n"
unfolding a_file
other_name = refl

later_moment : question_text a_file (question.Show 1 (aspect.File (97 ∷ []))) ≡ codes "no point\n"
unfolding a_file
later_moment = refl

-- a range ends with the event's bytes
too_far : question_text a_file (question.Back Data (sought.Event 0 1 2)) ≡ codes "no point\n"
unfolding a_file
too_far = refl

costs_nothing : question_cost a_file (question.Back Data (sought.Event 0 1 2)) ≡ 0
unfolding a_file
costs_nothing = refl

-- and with the file's
past_file : question_text a_file (question.Back Copy (sought.Name 0 (97 ∷ []) 1 2)) ≡ codes "no point\n"
unfolding a_file
past_file = refl

-- process 1 writes two bytes to the console, none, and one
three_writes : List Record
three_writes =
    entry.Slice 1 4
    ∷ entry.Call 1 WRITE 2 (extra.Console (5 ∷ 6 ∷ []))
    ∷ entry.Slice 1 2
    ∷ entry.Call 1 WRITE 0 (extra.Console [])
    ∷ entry.Slice 1 2
    ∷ entry.Call 1 WRITE 1 (extra.Console (7 ∷ []))
    ∷ []

-- slices have no number, and the write of no bytes isn't asked
asked_writes : writes three_writes ≡ record { event = 0; len = 2 } ∷ record { event = 2; len = 1 } ∷ []
unfolding three_writes
asked_writes = refl

-- nothing was booted, so that no byte has come from anywhere
no_sources : generated_text three_writes 1 ≡ gen_text 1 18 0
unfolding three_writes
no_sources = refl

-- the file that was booted is no image: the first write that is asked tells so, in the line's place
no_image : List Record
no_image = entry.File (97 ∷ []) (1 ∷ 2 ∷ []) ∷ entry.Boot (97 ∷ []) (record { bytes = 1 ∷ 2 ∷ []; origins = [] }) ∷ three_writes

no_image_told : generated_text no_image 1 ≡ damaged_text 1 2 0
unfolding no_image three_writes
no_image_told = refl

-- each write would run group 1 up to its moment: four instructions, and eight
both_cost : generated_cost no_image ≡ 12
unfolding no_image three_writes
both_cost = refl
