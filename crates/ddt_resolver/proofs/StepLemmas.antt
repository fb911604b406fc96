-- An ask as a step.
use Rattle.std.proofs.Common.{◌≡◌, Result, Ok, Err, refl}
use Rattle.std.specs.Prelude.{◌≢◌, IfOk, OnOk, IsTrue}
use Rattle.ddt_path.specs.declared.xeid.Xeid.{Xeid}
use Rattle.ddt_path.specs.Path.{xeid_path, is_path}
use Rattle.ddt_resolver.specs.declared.results.Asked.{Asked}
use Rattle.ddt_resolver.specs.declared.results.AskError.{AskError}
use Rattle.ddt_resolver.specs.declared.results.AskError.TheVariants.{TooMany, Exhausted, Memory}
use Rattle.ddt_resolver.specs.declared.step.Reply.{Reply}
use Rattle.ddt_resolver.specs.declared.step.Reply.TheVariants.{ToAsk}
use Rattle.ddt_resolver.specs.State.{State}
use Rattle.ddt_resolver.specs.AskStep.{AskStep, UnlessAskLacksMemory}
use Rattle.ddt_resolver.specs.Step.{Ask, Step, asks}

-- an ask that isn't refused for want of memory is a step
ask_step : (s : State) (x : Xeid) (new : State) (r : Result Asked AskError) → IsTrue (is_path (xeid_path x)) → r ≢ Err Memory
    → UnlessAskLacksMemory r (AskStep s x new r) → Step s (Ask x) new (ToAsk r)
ask_step s x new (Ok a) id free step = asks x (Ok a) id step refl refl
ask_step s x new (Err TooMany) id free step = asks x (Err TooMany) id step refl refl
ask_step s x new (Err Exhausted) id free step = asks x (Err Exhausted) id step refl refl
ask_step s x new (Err Memory) id free step = absurd (free refl)

-- and so is the reply to it, where there is one
pub asked_step : {E : Type 0} (s : State) (x : Xeid) (new : State) (r : Result Asked AskError) (reply : Result Reply E) → IsTrue (is_path (xeid_path x))
    → UnlessAskLacksMemory r (AskStep s x new r) → IfOk reply (λ a. a ≡ ToAsk r) → OnOk reply (r ≢ Err Memory) → IfOk reply (Step s (Ask x) new)
asked_step s x new r (Ok a) id step is free = rw is (ask_step s x new r id free step)
asked_step s x new r (Err refused) id step is free = tt
