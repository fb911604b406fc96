use Rattle.std.proofs.Common.{◌≡◌, ◌∙◌, arith}
use Rattle.ddt_check.proofs.EntryLemmas.{same_by_front}
use Rattle.ddt_check.proofs.entries.is_same.Goals as goal

pub returns : goal.returns
returns g c =
    let a = c.args.a.now in
    let b = c.args.b.now in
    let key = g.T.Keyed.key in
    let front = g.T.Keyed.front_of in
    let x : a.front ≡ front a.item.now = a.fronted in
    let y : b.front ≡ front b.item.now = b.fronted in
    c.is_same_by_front.ensures ∙ same_by_front (key a.item.now) (key b.item.now) a.front b.front
    (λ lt. g.met.T.Keyed.fronts a.item.now b.item.now a.in_range b.in_range (omega (arith, x, y, lt)))
    (λ lt. g.met.T.Keyed.fronts b.item.now a.item.now b.in_range a.in_range (omega (arith, x, y, lt)))
