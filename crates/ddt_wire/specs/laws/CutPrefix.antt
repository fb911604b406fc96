-- Prefixes that are seen as their paths.
use Rattle.std.proofs.Common.{◌≡◌, ℕ, ◌+◌, ◌-◌, ◌≤◌, List, length, take, ap, sym, refl, ◌∙◌, arith}
use Rattle.ddt_path.specs.declared.locator.Locator.{Locator}
use Rattle.ddt_path.specs.declared.form.Form.{Form}
use Rattle.ddt_path.specs.declared.form.Form.TheVariants.{Block}
use Rattle.ddt_path.specs.Path.{xeid_path, path, address_width, IsForm}
use Rattle.ddt_path.specs.FormOf.{form_of}
use Rattle.ddt_path.specs.FormLemmas.{form_of-path}
use Rattle.ddt_path.specs.laws.Prefix.{length-xeid_path, take-xeid_path-long}

pub form_of-named : (p : List ℕ) (form : Form) → path form ≡ p → IsForm form → form_of p ≡ form
form_of-named p form e h = ap form_of (sym e) ∙ form_of-path form h

-- a block is the first part of the path of its address
pub take_block : (n : ℕ) (a : Locator) (len : ℕ) → take (33 + len) (xeid_path (record { iid = n; address = a })) ≡ path (Block n a len)
take_block n a len = let e : 33 + len - 33 ≡ len = omega arith in take-xeid_path-long (record { iid = n; address = a }) (33 + len) (omega arith) ∙ rw e refl

pub fits_path : (n : ℕ) (a : Locator) (len : ℕ) → len ≤ address_width a → 33 + len ≤ length (xeid_path (record { iid = n; address = a }))
fits_path n a len le = omega (arith, length-xeid_path (record { iid = n; address = a }))

pub ruleset cut_block = (take_block, fits_path)
