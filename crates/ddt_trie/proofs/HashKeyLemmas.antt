-- What is hashed of a prefix, by the form that it is written down as.
use Rattle.std.proofs.Common.{◌≡◌, ap, sym, ◌∙◌}
use Rattle.ddt_path.specs.declared.form.Form.{Form}
use Rattle.ddt_path.specs.Path.{path, IsForm}
use Rattle.ddt_path.specs.FormLemmas.{form_of-path}
use Rattle.ddt_path.specs.FormOf.{form_of}
use Rattle.ddt_trie.specs.declared.hash_key.PrefixKey.{PrefixKey}
use Rattle.ddt_trie.specs.HashKey.{key_writes, form_writes}

pub written : (k : PrefixKey) (form f : Form) → path form ≡ k.prefix → IsForm form → form ≡ f → form_writes f ≡ key_writes k
written k form f is fits e = ap form_writes (sym e ∙ sym (form_of-path form fits) ∙ ap form_of is)
