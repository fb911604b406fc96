-- What a sink was given of a list. A sink is known by what a call of it may do: the sink before, the item, the answer
-- and the sink after.
use Rattle.std.specs.Prelude.{◌≡◌, List, [], ◌∷◌, ◌++◌, Result, Ok, Err}
use Rattle.ddt_plan.specs.declared.sink.PlanFault.{PlanFault}
use Rattle.ddt_plan.specs.declared.sink.PlanFault.TheVariants.{Memory, Refused}

module _ {S T R : Type 0} (takes : S → T → Result (Unit {0}) R → S → Type 0) where
  -- it took these items, each once, one after the other
  abbrev pub HasTaken : S → List T → S → Type 0
  HasTaken before [] after = after ≡ before
  HasTaken before (item ∷ items) after = (next : S) × takes before item (Ok tt) next × HasTaken next items after

  -- it took a front of the items
  pub record HasTakenFront (before : S) (items : List T) (after : S) : Type 0 where
    pub taken : List T
    pub left : List T
    pub all : items ≡ taken ++ left
    pub took : HasTaken before taken after

  -- it took the items before one, and refused that one for this reason
  pub record HasRefused (before : S) (items : List T) (refusal : R) (after : S) : Type 0 where
    pub taken : List T
    pub item : T
    pub left : List T
    pub all : items ≡ taken ++ item ∷ left
    pub until : S
    pub took : HasTaken before taken until
    pub refused : takes until item (Err refusal) after

  -- Items were given with this answer: all of them were taken; or a front of them, and memory ran out; or one was
  -- refused.
  abbrev pub HasGiven : S → List T → Result (Unit {0}) (PlanFault R) → S → Type 0
  HasGiven before items (Ok all) after = HasTaken before items after
  HasGiven before items (Err Memory) after = HasTakenFront before items after
  HasGiven before items (Err (Refused refusal)) after = HasRefused before items refusal after
