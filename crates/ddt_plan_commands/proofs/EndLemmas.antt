-- The ends of a comparison tell apart whether anything differs.
use Rattle.std.proofs.Common.{◌≡◌, ◌⊎◌, Bool, true, false, inl, inr, refl, sym, ◌∙◌}
use Rattle.ddt_plan_commands.specs.declared.exit_status.ExitStatus.{ExitStatus}
use Rattle.ddt_plan_commands.specs.declared.exit_status.ExitStatus.TheVariants.{Refused, Unprinted}
use Rattle.ddt_plan_commands.specs.Ends.{diff_end}

pub same_end : (a b : Bool) → diff_end a ≡ diff_end b → a ≡ b
same_end true true e = refl
same_end true false e = absurd (cc e)
same_end false true e = absurd (cc e)
same_end false false e = refl

pub no_refusal : (a : Bool) → diff_end a ≡ Refused → ⊥
no_refusal true e = cc e
no_refusal false e = cc e

unprinted : (a : Bool) → diff_end a ≡ Unprinted → ⊥
unprinted true e = cc e
unprinted false e = cc e

pub ends_apart : (a : Bool) (end : ExitStatus) → end ≡ diff_end a → (end ≡ Refused) ⊎ (end ≡ Unprinted) → ⊥
ends_apart a end e (inl h) = no_refusal a (sym e ∙ h)
ends_apart a end e (inr h) = unprinted a (sym e ∙ h)
