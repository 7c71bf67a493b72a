-- `names::spelt` meets its contract: as many name bytes, and then zeros.
use Rattle.std.proofs.Common.{rules, tests, arith, ◌≡◌, ◌∙◌, sym, length, take, drop, eqb}
use Rattle.std.proofs.lemmas.Iterator.{YieldsList-from_slice}
use Rattle.std.proofs.lemmas.Iterator.Search.{all_from_yields_List}
use Rattle.task.specs.Names.{name_byte}
use Rattle.task.proofs.NameLaws.{spelt-long, spelt-tested}
use Rattle.task.proofs.names.spelt.Goals as goal

pub returns-then-len-gt-NAME_MOST : goal.returns-then-len-gt-NAME_MOST
returns-then-len-gt-NAME_MOST c =
    let long : length c.args.bytes ≡ 24 = search rules in
    sym (spelt-long c.args.len c.args.bytes (omega arith))

pub returns-then-all : goal.returns-then-all
returns-then-all c =
    let s = c.args in
    let long : length s.bytes ≡ 24 = search rules in
    let spelling = all_from_yields_List name_byte _ _ c.all.result c.all.ensures.ran
    (YieldsList-from_slice (take s.len s.bytes) (c.iter.ensures.rest ∙ c.split_at.ensures.front)) (λ x b q k. search (rules, tests)) in
    let zeros = all_from_yields_List (λ b. eqb b 0) _ _ c.all-then-all.result c.all-then-all.ensures.ran
    (YieldsList-from_slice (drop s.len s.bytes) (c.iter-then-all.ensures.rest ∙ c.split_at.ensures.back)) (λ x b q k. search (rules, tests)) in
    rw (← spelt-tested s.len s.bytes (omega arith), ← spelling, c.if-all.true) zeros

pub returns-else-all : goal.returns-else-all
returns-else-all c =
    let s = c.args in
    let long : length s.bytes ≡ 24 = search rules in
    let spelling = all_from_yields_List name_byte _ _ c.all.result c.all.ensures.ran
    (YieldsList-from_slice (take s.len s.bytes) (c.iter.ensures.rest ∙ c.split_at.ensures.front)) (λ x b q k. search (rules, tests)) in
    rw (← spelt-tested s.len s.bytes (omega arith), ← spelling, c.if-all.false)
