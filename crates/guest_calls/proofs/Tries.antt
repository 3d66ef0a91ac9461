-- Calls that may ask a device, by how they end.
use Rattle.std.proofs.Common.{◌≡◌, ℕ, Bool, true, false, ◌==◌, if◌then◌else◌, List, length, take, IfOk, IfSome, refl, sym, ap, subst}
use Rattle.std.specs.Prelude.{◌↔◌, Result, Ok, Err, OnErr, IsErrAnd, IsErrOf, IsTrue}
use Rattle.std.specs.Result.{result_map_both}
use Rattle.std.proofs.lemmas.Result.{IfOk-weaker}
use Rattle.arn_base.specs.declared.errors.NoMemory.{NoMemory}
use Rattle.parts_model.specs.declared.limits.TheConstants.{MOST_FILE_BYTES}
use Rattle.parts_model.specs.declared.refusals.TheConstants.{NO_ROOM}
use Rattle.parts_model.specs.Files.{fitting}
use Rattle.parts_model.specs.Replies.{Answered}
use Rattle.acts_model.specs.Bodies.{View}
use Rattle.acts_model.specs.Views.{call_number}
use Rattle.arn_model.specs.Doing.{Question, Request, Waits, Does, Asks, refused}
use Rattle.arn_model.specs.Kernel.{Machine}
use Rattle.arn_model.specs.Row.{is_waiting, request}
use Rattle.arn_model.specs.TransferCalls.{put_into_file}
use Rattle.guest_bodies.specs.Shown.{seen_in}
use Rattle.guest_devices.specs.Answers as devices
use Rattle.guest_requests.specs.declared.reading.Place.{Place}
use Rattle.guest_requests.specs.Calls.{ComesTo}
use Rattle.guest_requests.specs.Tables.{OfTables, Tables}
use Rattle.guest_requests.specs.Transfers.{writing_at}
use Rattle.guest_calls.specs.Acted.{Carried}
use Rattle.guest_calls.specs.Asked.{Replied, Ended, Alone, Asking}
use Rattle.guest_calls.specs.Fits.{IsShort}
use Rattle.guest_calls.specs.State.{State, OfProcess}
use Rattle.guest_calls.specs.Tables.{tables_in}
use Rattle.guest_calls.specs.Tried.{Tried}
use Rattle.guest_calls.specs.declared.outcomes.CallStop.{CallStop}
use Rattle.guest_calls.specs.declared.outcomes.CallStop.TheVariants as stop
use Rattle.guest_calls.specs.declared.outcomes.Done.{Done}
use Rattle.guest_calls.proofs.Asks.{asking}
use Rattle.guest_calls.proofs.Called.{called}
use Rattle.guest_calls.proofs.Requests.{ended-ready, errs-otherwise}
use Rattle.guest_calls.proofs.Stands.{of-tables}

-- what has ended didn't wait
ready : {A : Type 0} (answers : A → devices.Asked → Answered → A → Type 0) (asked asked' : A) (r : Request) (d : Done) (m : Machine) (pid : ℕ) (v : View) (new : State) → Ended answers asked asked' r d m pid v new → is_waiting r ≡ false
ready answers asked asked' r d m pid v new (Alone same carried) = ap is_waiting carried.is
ready answers asked asked' r d m pid v new (Asking question is replied) = ap is_waiting is

unless-ok : {P : Type 0} (r : Result Done CallStop) → P → OnErr r P
unless-ok (Ok d) p = tt
unless-ok (Err e) p = p

module _ {A : Type 0} {answers : A → devices.Asked → Answered → A → Type 0} {asked asked' : A} {row : Machine → ℕ → View → Request} {pid : ℕ} {old new : State} where
  ends : (d : Done) → IsShort d.extra → OfProcess old pid (λ m v. Ended answers asked asked' (row m pid v) d m pid v new) → Tried answers asked asked' row pid (Ok d) old new
  ends d short ended =
      record {
        ended = ended;
        short = short;
        waits = λ m v stands sees. ended-ready (Ok d) (is_waiting (row m pid v)) (λ e. cc) (ready answers asked asked' (row m pid v) d m pid v new (ended m v stands sees));
        err = tt;
        unasked = tt;
      }

  -- it is carried out, and asks nothing
  pub unasking : (r : Result Done CallStop) → asked' ≡ asked → IfOk r (λ (d : Done). OfProcess old pid (λ m v. Carried (row m pid v) d m pid v new)) → IfOk r (λ (d : Done). IsShort d.extra) → OfProcess old pid (λ m v. IsErrOf r stop.NotReady ↔ IsTrue (is_waiting (row m pid v))) → OnErr r (new ≡ old) → Tried answers asked asked' row pid r old new
  unasking r same carried short waits err =
      record {
        ended =
            IfOk-weaker r (λ (d : Done). OfProcess old pid (λ m v. Carried (row m pid v) d m pid v new)) (λ (d : Done). OfProcess old pid (λ m v. Ended answers asked asked' (row m pid v) d m pid v new))
            (λ d carries m v stands sees. Alone same (carries m v stands sees)) carried;
        short = short;
        waits = waits;
        err = err;
        unasked = unless-ok r same;
      }

  -- it is the call at which a process stands
  pub called-by : (r : Result Done CallStop) → Tried answers asked asked' row pid r old new → (number n : ℕ) → IfSome (seen_in old.guests pid) (λ w. number ≡ call_number w.body.cpu) → number ≡ n → ComesTo n row → Tried answers asked asked' request pid r old new
  called-by r tried number n told is comes =
      record {
        ended =
            IfOk-weaker r (λ (d : Done). OfProcess old pid (λ m v. Ended answers asked asked' (row m pid v) d m pid v new)) (λ (d : Done). OfProcess old pid (λ m v. Ended answers asked asked' (request m pid v) d m pid v new))
            (λ d ends m v stands sees. subst (λ (q : Request). Ended answers asked asked' q d m pid v new) (sym (comes m pid v (called old pid number n m v stands sees told is))) (ends m v stands sees)) tried.ended;
        short = tried.short;
        waits =
            λ m v stands sees. subst (λ (q : Request). IsErrOf r stop.NotReady ↔ IsTrue (is_waiting q)) (sym (comes m pid v (called old pid number n m v stands sees told is)))
            (tried.waits m v stands sees);
        err = tried.err;
        unasked = tried.unasked;
      }

  -- it asks nothing
  pub alone : {t : Tables} (d : Done) (one : Machine → View → Request) → t ≡ tables_in old → OfTables t pid (λ m v. row m pid v ≡ one m v) → IsShort d.extra → asked' ≡ asked → OfProcess old pid (λ m v. Carried (one m v) d m pid v new) → Tried answers asked asked' row pid (Ok d) old new
  alone {t = t} d one is comes short same carried =
      ends d short
      (λ m v stands sees. Alone same
      (subst (λ (r : Request). Carried r d m pid v new) (sym (of-tables old pid t (λ m v. row m pid v ≡ one m v) is comes m v stands sees)) (carried m v stands sees)))

  -- it asks, and ends as the answer says
  pub asks : {t : Tables} (d : Done) (question : Question) → t ≡ tables_in old → OfTables t pid (λ m v. row m pid v ≡ Asks question) → IsShort d.extra → OfProcess old pid (λ m v. Replied answers asked asked' question d m pid v new) → Tried answers asked asked' row pid (Ok d) old new
  asks {t = t} d question is comes short replied =
      ends d short (asking answers asked asked' pid old new d (λ m v. row m pid v) question t is comes replied)

  -- it isn't ready
  pub waits : {t : Tables} → t ≡ tables_in old → OfTables t pid (λ m v. row m pid v ≡ Waits) → new ≡ old → asked' ≡ asked → Tried answers asked asked' row pid (Err stop.NotReady) old new
  waits {t = t} is comes still same =
      record {
        ended = tt;
        short = tt;
        waits = λ m v stands sees. (λ e. ap is_waiting (of-tables old pid t (λ m v. row m pid v ≡ Waits) is comes m v stands sees), λ w. refl);
        err = still;
        unasked = same;
      }

  -- it is ready, and there is no memory
  pub lacks : {t : Tables} (r : Result Done CallStop) → t ≡ tables_in old → OfTables t pid (λ m v. is_waiting (row m pid v) ≡ false) → IsErrAnd r (λ e. e ≡ stop.NoMemory) → new ≡ old → asked' ≡ asked → Tried answers asked asked' row pid r old new
  lacks (Ok d) is comes errs still same = absurd errs
  lacks {t = t} (Err e) is comes errs still same =
      record {
        ended = tt;
        short = tt;
        waits =
            λ m v stands sees. ended-ready (Err e) (is_waiting (row m pid v)) (errs-otherwise (Err e) (λ e. e ≡ stop.NoMemory) errs (λ p. cc))
            (of-tables old pid t (λ m v. is_waiting (row m pid v) ≡ false) is comes m v stands sees);
        err = still;
        unasked = same;
      }

  -- it asks nothing, if there is memory
  pub alone-or : {t : Tables} (r : Result Done NoMemory) (q : Result Done CallStop) (one : Machine → View → Request) → q ≡ result_map_both (λ d. d) (λ e. stop.NoMemory) r → t ≡ tables_in old → OfTables t pid (λ m v. row m pid v ≡ one m v) → OfTables t pid (λ m v. is_waiting (row m pid v) ≡ false) → IfOk r (λ (d : Done). IsShort d.extra) → asked' ≡ asked → IfOk r (λ (d : Done). OfProcess old pid (λ m v. Carried (one m v) d m pid v new)) → OnErr r (new ≡ old) → Tried answers asked asked' row pid q old new
  alone-or (Ok d) q one is-q is comes ready short same carried still =
      subst (λ (x : Result Done CallStop). Tried answers asked asked' row pid x old new) (sym is-q) (alone d one is comes short same carried)
  alone-or (Err e) q one is-q is comes ready short same carried still =
      subst (λ (x : Result Done CallStop). Tried answers asked asked' row pid x old new) (sym is-q) (lacks (Err stop.NoMemory) is ready refl still same)

  -- it asks, if there is memory
  pub asks-or : {t : Tables} (r : Result Done NoMemory) (q : Result Done CallStop) (question : Question) → q ≡ result_map_both (λ d. d) (λ e. stop.NoMemory) r → t ≡ tables_in old → OfTables t pid (λ m v. row m pid v ≡ Asks question) → IfOk r (λ (d : Done). IsShort d.extra) → IfOk r (λ (d : Done). OfProcess old pid (λ m v. Replied answers asked asked' question d m pid v new)) → OnErr r (new ≡ old) → OnErr r (asked' ≡ asked) → Tried answers asked asked' row pid q old new
  asks-or (Ok d) q question is-q is comes short replied still unasked =
      subst (λ (x : Result Done CallStop). Tried answers asked asked' row pid x old new) (sym is-q) (asks d question is comes short replied)
  asks-or (Err e) q question is-q is comes short replied still unasked =
      subst (λ (x : Result Done CallStop). Tried answers asked asked' row pid x old new) (sym is-q) (lacks (Err stop.NoMemory) is (λ m v same sees. ap is_waiting (comes m v same sees)) refl still unasked)

-- a write to a file is ready
pub puts-ready : (m : Machine) (at : ℕ) (bytes : List ℕ) (place : Place) → is_waiting (writing_at m at bytes place) ≡ false
puts-ready m at bytes place = by_room (place.position == MOST_FILE_BYTES)
  where
    by_room : (b : Bool) → is_waiting (if b then refused NO_ROOM m.kernel else Does (put_into_file m place.number at place.file place.position (take (fitting place.position (length bytes)) bytes))) ≡ false
    by_room true = refl
    by_room false = refl
