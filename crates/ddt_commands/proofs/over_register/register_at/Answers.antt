use Rattle.std.proofs.Common.{Option, subst, sym}
use Rattle.std.proofs.lemmas.Result.{IfErr-weaker}
use Rattle.ddt_commands.specs.declared.refusal.Refusal.{Refusal}
use Rattle.ddt_commands.specs.declared.refusal.Refusal.TheVariants.{NoRegister}
use Rattle.ddt_commands.specs.declared.refusal.register_file.RegisterRefusal.TheVariants.{BreaksRule}
use Rattle.ddt_commands.specs.Register.{IsWhyNoRegister}
use Rattle.ddt_commands.proofs.over_register.register_at.Goals as goal

pub returns-in-Ok-clause-refused : goal.returns-in-Ok-clause-refused
returns-in-Ok-clause-refused g c =
    IfErr-weaker c.checked.result _ _ (λ why broken.
    let fault = broken.0 in
    subst (λ (w : Refusal). IsWhyNoRegister g.F.Read.remaining c.args.source c.args.path.now w) (sym broken.1)
    (subst (λ (o : Option _). IsWhyNoRegister g.F.Read.remaining o c.args.path.now (NoRegister (BreaksRule fault))) (sym c.in-Some.is)
    (λ bytes tells. (c.in-Ok.register, c.in-Ok.ensures.spelled bytes tells, broken.2)))) c.checked.ensures.refused
