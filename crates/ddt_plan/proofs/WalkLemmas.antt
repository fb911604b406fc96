-- What a walk gives of the halves of a prefix, it gives of the prefix.
use Rattle.std.proofs.Common.{◌≡◌, ℕ, ◌<◌, false, true, List, ◌++◌, length, ◌-◌, sym, ap, subst, ◌∙◌}
use Rattle.std.specs.Prelude.{Result, Err}
use Rattle.ddt_plan.specs.declared.sink.PlanFault.{PlanFault}
use Rattle.ddt_plan.specs.Blocks.{is_undivided, half, pieces}
use Rattle.ddt_plan.specs.Sinks.{HasTaken, HasGiven}
use Rattle.ddt_plan.proofs.PieceLemmas.{two_parts}
use Rattle.ddt_plan.proofs.SinkLemmas.{given_both, given_first}

module _ {S T R : Type 0} (takes : S → T → Result (Unit {0}) R → S → Type 0)
    (make : List (List ℕ) → List T) (split : (xs ys : List (List ℕ)) → make (xs ++ ys) ≡ make xs ++ make ys) (keys : List (List ℕ)) where
  -- what is made of the pieces of a prefix
  abbrev pub made : List ℕ → List T
  made q = make (pieces (161 - length q) keys q)

  module _ (q lower upper : List ℕ) (divided : is_undivided keys q ≡ false) (room : length q < 161) (low : lower ≡ half false q) (high : upper ≡ half true q) where
    whole : made lower ++ made upper ≡ made q
    whole = ap (λ (l : List ℕ). made l ++ made upper) low ∙ ap (λ (l : List ℕ). made (half false q) ++ made l) high ∙ two_parts make split keys q divided room

    pub both_given : (before mid after : S) (answer : Result (Unit {0}) (PlanFault R)) → HasTaken takes before (made lower) mid
        → HasGiven takes mid (made upper) answer after → HasGiven takes before (made q) answer after
    both_given before mid after answer took gave =
        subst (λ (items : List T). HasGiven takes before items answer after) whole (given_both takes (made lower) (made upper) before mid after answer took gave)

  module _ (q lower : List ℕ) (divided : is_undivided keys q ≡ false) (room : length q < 161) (low : lower ≡ half false q) where
    pub first_given : (before after : S) (fault : PlanFault R) (answer : Result (Unit {0}) (PlanFault R)) → answer ≡ Err fault
        → HasGiven takes before (made lower) (Err fault) after → HasGiven takes before (made q) answer after
    first_given before after fault answer is gave =
        subst (λ (a : Result (Unit {0}) (PlanFault R)). HasGiven takes before (made q) a after) (sym is)
        (subst (λ (items : List T). HasGiven takes before items (Err fault) after)
        (ap (λ (l : List ℕ). made l ++ made (half true q)) low ∙ two_parts make split keys q divided room)
        (given_first takes (made lower) (made (half true q)) before after fault gave))
