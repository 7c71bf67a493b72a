-- `read_sheet` meets its contract: line by line, and then by what is left.
-- Assumes nothing.
use mathlib.Core.Path.{◌≡◌, sym, ap, subst, ◌∙◌}
use Rattle.std.proofs.Common.{◌<◌, ◌≤◌, [], Ok, length, rules}
use Rattle.std.specs.Result.{OnOk}
use Rattle.std.proofs.lemmas.Result.{err_from_is_err_and}
use Rattle.task.specs.Faults.{number_of, fault_number}
use Rattle.task.proofs.FaultLaws.{number-some}
use Rattle.lines.specs.Lines.{newline, up_to, beyond, runs_in}
use Rattle.lines.specs.Forms.{line_of}
use Rattle.sheet.specs.Sheet.{among_parts, line_fault, after}
use Rattle.sheet.specs.Ways.ReaderHolds.{stage_number, Carries}
use Rattle.sheet.proofs.ReadLaws.{read-long, reading-top, reading-bad, reading-on, reading-cut, reading-missing, reading-whole, At, refused-at, read-fine}
use Rattle.sheet.proofs.read_sheet.Goals as goal

pub returns-then-bytes-gt-SHEET_MOST : goal.returns-then-bytes-gt-SHEET_MOST
returns-then-bytes-gt-SHEET_MOST c = record { exact = read-long c.args.bytes.now c.if-bytes-gt-SHEET_MOST.true }

pub loop-rest-init : goal.loop-rest-init
loop-rest-init c =
    reading-top c.args.bytes.now c.top-draft.result c.until.result.0.now (runs_in newline c.until.result.1)
    c.if-bytes-gt-SHEET_MOST.false c.top-draft.ensures c.until.ensures.run c.until.ensures.others

pub returns-in_err-map_err : goal.returns-in_err-map_err
returns-in_err-map_err c = record {
  exact =
      let r = c.loop-rest.invariant in
      let x = c.in_err-map_err.field-0.0 in
      let left = c.in-Some.left.now in
      let at = refused-at c.read.result c.map_err.result c.loop-rest.line (let mapped : At c.read.result c.map_err.result c.loop-rest.line = search rules in mapped) x c.in_err-map_err.was in
      let judged : number_of x.fault ≡ line_fault r.above (line_of c.loop-rest.run.now) =
      sym (ap fault_number at.0) ∙ c.read.ensures.fault r.above r.held in
      let e = err_from_is_err_and c.from_residual.result c.from_residual.ensures.1 in
      let bad =
      reading-bad c.args.bytes.now c.loop-rest.draft c.loop-rest.run.now (runs_in newline c.loop-rest.rest) c.loop-rest.line r
      (up_to newline left) (beyond newline left) (ap (runs_in newline) c.in-Some.is) (number_of x.fault) judged (number-some x.fault) in
      rw (e.1, e.2, at.1) bad;
}

pub loop-rest-preserved : goal.loop-rest-preserved
loop-rest-preserved c =
    let r = c.loop-rest.invariant in
    let left = c.in-Some.left.now in
    let line = line_of c.loop-rest.run.now in
    let fine : c.read.result ≡ Ok c.in_ok-map_err.field-0 =
    read-fine c.read.result c.map_err.result c.loop-rest.line (let mapped : At c.read.result c.map_err.result c.loop-rest.line = search rules in mapped) c.in_ok-map_err.field-0 c.in_ok-map_err.was in
    let none : 0 ≡ line_fault r.above line = sym (ap fault_number fine) ∙ c.read.ensures.fault r.above r.held in
    let held : Carries (after r.above line) c.read.new.self =
    subst (λ q. OnOk q (Carries (after r.above line) c.read.new.self)) fine (c.read.ensures.after r.above r.held) in
    rw (c.until-in-Some.ensures.run, ← c.until-in-Some.ensures.others)
    (reading-on c.args.bytes.now c.loop-rest.draft c.loop-rest.run.now (runs_in newline c.loop-rest.rest) c.loop-rest.line r
    (up_to newline left) (beyond newline left) (ap (runs_in newline) c.in-Some.is) c.read.new.self none held)

pub returns-then-not-is_empty : goal.returns-then-not-is_empty
returns-then-not-is_empty c = record {
  exact =
      let some : c.loop-rest.run.now ≡ [] → ⊥ = search rules in
      reading-cut c.args.bytes.now c.loop-rest.draft c.loop-rest.run.now (runs_in newline c.loop-rest.rest) c.loop-rest.line c.loop-rest.invariant
      (ap (runs_in newline) c.in_default.is) some;
}

pub returns-then-lt : goal.returns-then-lt
returns-then-lt c = record {
  exact =
      let none : length c.loop-rest.run.now ≡ 0 = search rules in
      let early : stage_number c.loop-rest.draft.stage < among_parts = search rules in
      reading-missing c.args.bytes.now c.loop-rest.draft c.loop-rest.run.now (runs_in newline c.loop-rest.rest) c.loop-rest.line c.loop-rest.invariant
      (ap (runs_in newline) c.in_default.is) none early;
}

pub returns : goal.returns
returns c = record {
  exact =
      let none : length c.loop-rest.run.now ≡ 0 = search rules in
      let late : among_parts ≤ stage_number c.loop-rest.draft.stage = search rules in
      reading-whole c.args.bytes.now c.loop-rest.draft c.loop-rest.run.now (runs_in newline c.loop-rest.rest) c.loop-rest.line c.loop-rest.invariant
      (ap (runs_in newline) c.in_default.is) none late;
}
