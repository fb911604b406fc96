use Rattle.std.proofs.Common.{sym, ◌∙◌, arith}
use Rattle.std.proofs.lemmas.Bool.{true≢false}
use Rattle.ddt_sockets.proofs.NoncesLemmas.TranslationLemmas.{numbered}
use Rattle.ddt_sockets.proofs.nonces.nonce_translator.nonce_in.Goals as goal

pub returns-then-not-is_of-clause-none : goal.returns-then-not-is_of-clause-none
returns-then-not-is_of-clause-none c = λ nonce is. true≢false (sym is.kind ∙ sym c.is_of.ensures ∙ c.if-not-is_of.true)

pub returns-then-bytes-lt-NUMBERED-clause-none : goal.returns-then-bytes-lt-NUMBERED-clause-none
returns-then-bytes-lt-NUMBERED-clause-none c = λ nonce is. let long = is.long in omega (arith, long, c.if-bytes-lt-NUMBERED.true)

pub returns-clause-found : goal.returns-clause-found
returns-clause-found c =
    rw (c.read_u64.ensures, c.split_at.ensures.back)
    (numbered c.args.bytes.now (record { at = λ i. omega (arith, c.type_inv.bytes i) }) (sym c.is_of.ensures ∙ c.if-not-is_of.false) (omega (arith, c.if-bytes-lt-NUMBERED.false)))
