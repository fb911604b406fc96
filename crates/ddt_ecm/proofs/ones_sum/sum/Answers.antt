use Rattle.std.proofs.Common.{sym, ◌∙◌, arith, length}
use Rattle.std.proofs.lemmas.Bool.{eqb-true, eqb-false}
use Rattle.ddt_ecm.specs.laws.Sum.{folded_last, words_none, words_one}
use Rattle.ddt_ecm.proofs.ones_sum.sum.Goals as goal

pub returns-then-is_empty : goal.returns-then-is_empty
returns-then-is_empty c =
    let none = words_none c.loop-rest.rest.now (eqb-true (length c.loop-rest.rest.now) 0 (sym c.is_empty.ensures ∙ c.if-is_empty.true)) in
    folded_last c.args.start _ c.fold.result c.args.bytes.now (omega arith) (record { at = λ i. omega (arith, c.type_inv.bytes i) }) c.fold.ensures (omega (arith, none))

pub returns : goal.returns
returns c =
    let one = words_one c.loop-rest.rest.now (omega arith) (eqb-false (length c.loop-rest.rest.now) 0 (sym c.is_empty.ensures ∙ c.if-is_empty.false)) in
    folded_last c.args.start _ c.fold-2.result c.args.bytes.now (omega arith) (record { at = λ i. omega (arith, c.type_inv.bytes i) }) c.fold-2.ensures (omega (arith, one, c.from-2.ensures))
