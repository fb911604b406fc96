use Rattle.std.proofs.Common.{◌≡◌, ◌∙◌, arith}
use Rattle.std.specs.Ordering.{nat_cmp}
use Rattle.ddt_check.proofs.EntryLemmas.{by_front}
use Rattle.ddt_check.proofs.entries.compared.Goals as goal

pub returns-in_default : goal.returns-in_default
returns-in_default g c =
    let a = c.args.a.now in
    let b = c.args.b.now in
    let front = g.T.Keyed.front_of in
    let x : a.front ≡ front a.item.now = a.fronted in
    let y : b.front ≡ front b.item.now = b.fronted in
    c.cmp.ensures ∙ by_front (g.T.Keyed.key a.item.now) (g.T.Keyed.key b.item.now) a.front b.front
    (λ lt. g.met.T.Keyed.fronts a.item.now b.item.now a.in_range b.in_range (omega (arith, x, y, lt)))
    (λ lt. g.met.T.Keyed.fronts b.item.now a.item.now b.in_range a.in_range (omega (arith, x, y, lt)))
    (nat_cmp (g.T.Item.row_of a.item.now) (g.T.Item.row_of b.item.now)) (λ same. c.in_default.not-Equal (c.cmp.ensures ∙ same))
