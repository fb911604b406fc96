use Rattle.std.proofs.Common.{◌≡◌, ℕ, List, Bool, true, cond, Some, None, refl, sym, ap, ◌∙◌}
use Rattle.std.proofs.lemmas.Bool.{and_parts}
use Rattle.ddt_map_register.specs.declared.register_head.RegisterHead.{RegisterHead}
use Rattle.ddt_map_register.specs.MapRegister.{Message}
use Rattle.ddt_map_register.specs.MapNotify.{notify_to}
use Rattle.ddt_registrar.specs.Sender.{sender_of}
use Rattle.ddt_registrar.specs.State.{Key}
use Rattle.ddt_registrar.specs.Taking.{OutOfMemory}
use Rattle.ddt_registrar.proofs.JudgeLemmas.{judged_bears}
use Rattle.ddt_registrar.proofs.registrar.Registrar.notify.Goals as goal

pub notify-requires : goal.notify-requires
notify-requires g c =
    let who = sender_of c.args.arrival.now.message.now.id c.args.arrival.now.from in
    (and_parts _ _ (judged_bears c.args.arrival.now.message.now who c.args.self.now c.in_ok-key.key.now c.in_ok-key.ensures)).0

pub returns-in-Err-clause-refused : goal.returns-in-Err-clause-refused
returns-in-Err-clause-refused g c = OutOfMemory c.in_ok-key.key.now c.in_ok-key.ensures refl

pub returns-in-Ok-clause-told : goal.returns-in-Ok-clause-told
returns-in-Ok-clause-told g c =
    let message : Message = c.args.arrival.now.message.now in
    let key : Key = c.in_ok-key.key.now in
    let secret : c.as_slice.result.now ≡ key.secret = c.as_slice.ensures.value ∙ ap (λ (k : Key). k.secret) c.key.view_is in
    let wanted : message.head.want_notify ≡ true = sym (ap (λ (h : RegisterHead). h.want_notify) c.head.ensures) ∙ c.if-head.true in record {
      key = key;
      taken = c.in_ok-key.ensures;
      is = ap (λ (bytes : List ℕ). Some bytes) (c.in-Ok.ensures ∙ ap (λ (s : List ℕ). notify_to s message) secret)
          ∙ sym (ap (λ (b : Bool). cond b (Some (notify_to key.secret message)) None) wanted);
    }
