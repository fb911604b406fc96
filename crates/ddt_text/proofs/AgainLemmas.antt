-- What is written is read again as the value.
use Rattle.std.proofs.Common.{◌≡◌, ◌^◌, ◌<◌, Ok}
use Rattle.ddt_path.specs.declared.locator.Locator.{Locator}
use Rattle.ddt_path.specs.declared.xeid.Xeid.{Xeid}
use Rattle.ddt_path.specs.declared.form.Form.{Form}
use Rattle.ddt_path.specs.Path.{path, IsForm, address_number, address_width}
use Rattle.ddt_text.specs.FirstFault.{locator_in, xeid_in, prefix_in}
use Rattle.ddt_text.specs.Written.{written_locator, written_xeid, written_prefix}
use Rattle.ddt_text.specs.laws.Readers.{locators_are_read, xeids_are_read, prefixes_are_read}
use Rattle.ddt_text.specs.laws.Written.{written_locator-spells, written_xeid-spells, written_prefix-spells}

pub written_locator-read : (a : Locator) → address_number a < 2 ^ address_width a → locator_in (written_locator a) ≡ Ok a
written_locator-read a h = locators_are_read.read (written_locator a) a (written_locator-spells a h)

pub written_xeid-read : (x : Xeid) → x.iid < 2 ^ 32 → address_number x.address < 2 ^ address_width x.address → xeid_in (written_xeid x) ≡ Ok x
written_xeid-read x fits h = xeids_are_read.read (written_xeid x) x (written_xeid-spells x fits h)

pub written_prefix-read : (form : Form) → IsForm form → prefix_in (written_prefix (path form)) ≡ Ok (path form)
written_prefix-read form h = prefixes_are_read.read (written_prefix (path form)) (path form) (written_prefix-spells form h)

pub ruleset laws = (written_locator-spells, written_xeid-spells, written_prefix-spells, written_locator-read, written_xeid-read, written_prefix-read)
