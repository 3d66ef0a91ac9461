-- What a kernel tells has a spelling: signals are such, and lists are short.
use Rattle.std.proofs.Common.{◌≡◌, ℕ, ◌≤◌, Bool, true, length, arith}
use Rattle.std.proofs.lemmas.Bool.Decides.{nat_tests}
use Rattle.arn_base.specs.declared.records.Extra.{Extra}
use Rattle.arn_base.specs.declared.records.Extra.TheVariants as extra
use Rattle.arn_base.specs.declared.records.Give.{Give}
use Rattle.arn_base.specs.declared.records.Record.TheVariants as entry
use Rattle.parts_model.specs.declared.limits.TheConstants.{MOST_FILE_BYTES}
use Rattle.parts_model.specs.Signals.{is_signal}
use Rattle.result_log.specs.Spelling.{ExtraHasSpelling, GiveHasSpelling, HasSpelling}
use Rattle.guest_calls.specs.Fits.{IsShort}
use Rattle.guest_machine.proofs.MachineLemmas.{named}

-- a file's bytes and their origins
pub few-spelled : (give : Give) → length give.bytes ≤ MOST_FILE_BYTES → length give.origins ≤ MOST_FILE_BYTES → GiveHasSpelling give
few-spelled give bytes origins = (omega (arith, bytes), omega (arith, origins))

-- what a call's record holds beside the result
pub short-spelled : (did : Extra) → IsShort did → ExtraHasSpelling did
short-spelled extra.Nothing short = tt
short-spelled (extra.Give give) short = few-spelled give short.0 short.1
short-spelled (extra.Start start) short = short
short-spelled (extra.Put file at bytes) short = omega (arith, short)
short-spelled (extra.Console bytes) short = omega (arith, short)
short-spelled (extra.Reply device bytes) short = omega (arith, short)
short-spelled extra.Fault short = tt
short-spelled extra.Absent short = tt
short-spelled (extra.Name file path) short = named path short
short-spelled (extra.Sent device bytes) short = omega (arith, short)

-- a delivery
pub signal-spelled : (pid signal : ℕ) (cut : Bool) (handler : ℕ) → is_signal signal ≡ true → HasSpelling (entry.Signal pid signal cut handler)
signal-spelled pid signal cut handler is = (grind (arith, nat_tests), grind (arith, nat_tests))
