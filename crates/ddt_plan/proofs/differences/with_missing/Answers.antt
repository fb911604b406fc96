use Rattle.std.proofs.Common.{◌≡◌, ◌∙◌, List, ℕ, [], ◌∷◌, ◌++◌, sym, subst, ap, inl, inr, refl}
use Rattle.std.proofs.lemmas.List.{take_all}
use Rattle.ddt_path.specs.laws.Member.{IsIn}
use Rattle.ddt_plan.specs.Differing.{AreMarkedAll}
use Rattle.ddt_plan.proofs.AlikeLemmas.{in_first, in_second}
use Rattle.ddt_plan.proofs.AgreeLemmas.{marked_more}
use Rattle.ddt_plan.proofs.differences.with_missing.Goals as goal
use Rattle.ddt_plan.proofs.differences.with_missing.Goals.{then-not-has+in_ok-push, else-not-has}

pub loop-item-init : goal.loop-item-init
loop-item-init g c = (λ p k. k, λ a k. absurd k)

pub loop-item-preserved : goal.loop-item-preserved
loop-item-preserved g c =
    let path = g.T.Prefixed.path in
    let items = c.args.items.now in
    let others = c.args.others.now in
    let i = c.loop-item.item-index in
    let x = c.item-item.result in
    let marked = c.loop-item.all.items in
    let known = c.loop-item.invariant.0 in
    let more = marked_more path items others i x c.loop-item-test.true c.item-item.is marked c.if-not-has.all.items in
    elim c.if-not-has.branch [
      | then-not-has+in_ok-push w ↦
          let is : c.if-not-has.all.items ≡ marked ++ path x ∷ [] = ap (λ v. v.items) w.all-is ∙ w.in_ok-push.ensures.items ∙ ap (λ (p : List ℕ). marked ++ p ∷ []) w.prefix.ensures in
          let kept : (p : List ℕ) → IsIn p marked → IsIn p c.if-not-has.all.items = λ p k. subst (IsIn p) (sym is) (in_first marked (path x ∷ []) p k) in
          (λ p k. kept p (known p k), more kept c.loop-item.invariant.1 (inr (subst (IsIn (path x)) (sym is) (in_second marked (path x ∷ []) (path x) (inl refl)))))
      | else-not-has w ↦
          let is : c.if-not-has.all.items ≡ marked = ap (λ v. v.items) w.all-is in
          let kept : (p : List ℕ) → IsIn p marked → IsIn p c.if-not-has.all.items = λ p k. subst (IsIn p) (sym is) k in
          (λ p k. kept p (known p k), more kept c.loop-item.invariant.1 (inl (c.has.ensures w.if-not-has.false)))
    ]

pub returns : goal.returns
returns g c =
    (c.loop-item.invariant.0, subst (λ xs. AreMarkedAll g.T.Prefixed.path xs c.args.others.now c.loop-item.all.items) (take_all c.loop-item.item-index c.args.items.now c.loop-item-test.false) c.loop-item.invariant.1)
