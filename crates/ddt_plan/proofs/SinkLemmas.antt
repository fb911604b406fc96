-- What a sink was given, part by part.
use Rattle.std.proofs.Common.{List, [], ◌∷◌, ◌++◌, refl, sym, ap, subst, ◌∙◌}
use Rattle.std.specs.Prelude.{Result, Ok, Err}
use Rattle.std.proofs.lemmas.List.{append_assoc}
use Rattle.ddt_plan.specs.declared.sink.PlanFault.{PlanFault}
use Rattle.ddt_plan.specs.declared.sink.PlanFault.TheVariants.{Memory, Refused}
use Rattle.ddt_plan.specs.Sinks.{HasTaken, HasGiven}

module _ {S T R : Type 0} (takes : S → T → Result (Unit {0}) R → S → Type 0) where
  -- what it took in two parts, it took as a whole
  taken_both : (xs ys : List T) (before mid after : S) → HasTaken takes before xs mid → HasTaken takes mid ys after → HasTaken takes before (xs ++ ys) after
  taken_both [] ys before mid after a b = subst (λ (s : S). HasTaken takes s ys after) a b
  taken_both (x ∷ xs) ys before mid after a b = (a.0, a.1, taken_both xs ys a.0 mid after a.2 b)

  -- and so it is with what was given, where the first part was taken
  pub given_both : (xs ys : List T) (before mid after : S) (answer : Result (Unit {0}) (PlanFault R))
      → HasTaken takes before xs mid → HasGiven takes mid ys answer after → HasGiven takes before (xs ++ ys) answer after
  given_both xs ys before mid after (Ok u) a b = taken_both xs ys before mid after a b
  given_both xs ys before mid after (Err Memory) a b = record {
    taken = xs ++ b.taken;
    left = b.left;
    all = ap (λ (l : List T). xs ++ l) b.all ∙ sym (append_assoc xs b.taken b.left);
    took = taken_both xs b.taken before mid after a b.took;
  }
  given_both xs ys before mid after (Err (Refused e)) a b = record {
    taken = xs ++ b.taken;
    item = b.item;
    left = b.left;
    all = ap (λ (l : List T). xs ++ l) b.all ∙ sym (append_assoc xs b.taken (b.item ∷ b.left));
    until = b.until;
    took = taken_both xs b.taken before mid b.until a b.took;
    refused = b.refused;
  }

  -- where the first part wasn't taken, what ends there ends so for the whole
  pub given_first : (xs ys : List T) (before after : S) (fault : PlanFault R)
      → HasGiven takes before xs (Err fault) after → HasGiven takes before (xs ++ ys) (Err fault) after
  given_first xs ys before after Memory a = record {
    taken = a.taken;
    left = a.left ++ ys;
    all = ap (λ (l : List T). l ++ ys) a.all ∙ append_assoc a.taken a.left ys;
    took = a.took;
  }
  given_first xs ys before after (Refused e) a = record {
    taken = a.taken;
    item = a.item;
    left = a.left ++ ys;
    all = ap (λ (l : List T). l ++ ys) a.all ∙ append_assoc a.taken (a.item ∷ a.left) ys;
    until = a.until;
    took = a.took;
    refused = a.refused;
  }

  -- before anything was given
  pub given_nothing : (xs : List T) (before : S) → HasGiven takes before xs (Err Memory) before
  given_nothing xs before = record { taken = []; left = xs; all = refl; took = refl }

  -- before one item, which was refused
  pub refused_one : (item : T) (before after : S) (e : R) → takes before item (Err e) after → HasGiven takes before (item ∷ []) (Err (Refused e)) after
  refused_one item before after e a = record { taken = []; item = item; left = []; all = refl; until = before; took = refl; refused = a }
