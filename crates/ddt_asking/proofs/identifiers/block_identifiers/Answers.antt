use Rattle.std.proofs.Common.{ℕ, List, subst}
use Rattle.ddt_plan.specs.declared.block_list.Block.{Block}
use Rattle.std.specs.declared.alloc.AllocError.{AllocError}
use Rattle.ddt_plan.specs.Changes.{AreBlocks}
use Rattle.ddt_asking.specs.declared.identifiers.IdentifierSink.{IdentifierSink}
use Rattle.ddt_asking.proofs.IdentifierLemmas.{all_taken}
use Rattle.ddt_asking.proofs.identifiers.block_identifiers.Goals as goal

pub returns-in-Ok : goal.returns-in-Ok
returns-in-Ok c =
    let given = c.in-Ok.ensures in (
      given.0,
      subst (λ (inside : List ℕ). AreBlocks c.args.accepted.now inside given.0) c.everything.ensures given.1,
      all_taken AllocError (λ (b : Block). b.prefix) (λ (s : IdentifierSink). s.identifiers.items) given.0
          (record { identifiers = c.new.result }) c.blocks-2.new.sink c.new.ensures.items given.2,
    )
