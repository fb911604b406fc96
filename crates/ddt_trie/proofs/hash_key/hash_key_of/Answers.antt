use Rattle.std.proofs.Common.{ap, ◌∙◌}
use Rattle.ddt_path.specs.declared.locator.Locator.{Locator}
use Rattle.ddt_path.specs.declared.form.Form.TheVariants.{Block}
use Rattle.ddt_trie.proofs.HashTableLemmas.{other_hash_key}
use Rattle.ddt_trie.proofs.hash_key.hash_key_of.Goals as goal

pub returns-in-Block-default-V6-default : goal.returns-in-Block-default-V6-default
returns-in-Block-default-V6-default c =
    let v = c.in-Block-default-V6-default in (
      c.form.result,
      c.form.ensures.kept,
      c.form.ensures.path,
      other_hash_key c.form.result c.args.prefix v._iid v._len v._address (v.is ∙ ap (λ (a : Locator). Block v._iid a v._len) v.address-is) c.form.ensures.path,
    )
