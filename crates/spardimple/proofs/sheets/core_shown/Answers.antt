-- `sheets::core_shown` meets its contract: refused as the sheet is; else what is said of a core of what the walk reached.
use mathlib.Core.Path.{◌≡◌, refl, sym, ap, ◌∙◌}
use Prim.Native.Nat.{ℕ, ◌+◌}
use native.Mathlib.Omega.{arith}
use lib.ListN.{length}
use borrow.Author.Rules.{rules}
use Rattle.std.specs.Prelude.{Err, Ok}
use Rattle.task.specs.Tasks.{place_number}
use Rattle.plan.specs.Reply.{Reply}
use Rattle.listing.specs.Papers.{Paper, note_of, left}
use Rattle.listing.specs.Why.{why_of}
use Rattle.sheet.specs.Sheet.{read_shown}
use Rattle.spardimple.specs.Whys.{why_core, why_reached, reached_sheet}
use Rattle.spardimple.proofs.WhySteps.{unread-core, read-core}
use Rattle.task.proofs.FaultLaws.{number-some}
use Rattle.spardimple.proofs.StepLaws.{refused-writes, read-small, reached-never, reached-few}
use Rattle.spardimple.proofs.sheets.core_shown.Goals.{in-None, in-Some}
use Rattle.spardimple.proofs.sheets.core_shown.Goals as goal

pub returns-in_err-sheet : goal.returns-in_err-sheet
returns-in_err-sheet c =
    let s = c.args in
    let why = c.in_err-sheet.field-0.0 in
    let is = c.in_err-sheet.ensures.exact in
    let same : c.from_residual.result ≡ Err why = search rules in
    rw same (refused-writes (why_core s.bytes.now s.core) why (unread-core s.bytes.now (read_shown (Err why)) is s.core (number-some why.fault))
    (read-small s.bytes.now why is) s.out.now)

pub returns-in_err-reached : goal.returns-in_err-reached
returns-in_err-reached c =
    absurd (reached-never c.args.bytes.now c.in_ok-sheet.sheet c.in_ok-sheet.ensures.exact c.in_err-reached.field-0.0 c.in_err-reached.ensures.exact)

pub overflow_add-stuck : goal.overflow_add-stuck
overflow_add-stuck c =
    let few = reached-few c.args.bytes.now c.in_ok-sheet.sheet c.in_ok-sheet.ensures.exact in
    let at : c.in-Some.place + 1 ≡ (reached_sheet c.in_ok-sheet.sheet).carries =
    omega (arith, ap place_number c.in-Some.is, ap (λ (q : Reply). q.carries) c.in_ok-reached.ensures.exact) in
    record { fits = omega (arith, at, few) }

pub returns : goal.returns
returns c =
    let s = c.args in
    let sheet = c.in_ok-sheet.sheet in
    let reached = c.in_ok-reached.reached in
    let stuck : c.match-reached.stuck ≡ place_number reached.stuck = elim c.match-reached.branch [
      | in-None w ↦ w.stuck-is ∙ sym (ap place_number w.in-None.is)
      | in-Some w ↦ omega (arith, w.stuck-is, ap place_number w.in-Some.is)
    ] in
    let paper : why_of reached.plan c.match-reached.stuck s.core ≡ why_core s.bytes.now s.core =
    ap (λ (k : ℕ). why_of reached.plan k s.core) stuck
    ∙ (ap (λ (q : Reply). why_reached q s.core) c.in_ok-reached.ensures.exact
    ∙ sym (read-core s.bytes.now (read_shown (Ok sheet)) c.in_ok-sheet.ensures.exact s.core refl)) in
    let said = c.why_plan.ensures.exact in
    record {
      says = said.0 ∙ ap (λ (p : Paper). note_of p (length s.out.now)) paper;
      leaves = said.1 ∙ ap (λ (p : Paper). left p s.out.now) paper;
      fits = omega (arith, said.3);
    }
