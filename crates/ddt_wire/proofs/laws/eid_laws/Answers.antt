use Rattle.ddt_wire.specs.laws.Eid.{eid_again, one_eid, eid_is_bytes, eid_faults, eid_spells, eid_taken}
use Rattle.ddt_wire.proofs.laws.eid_laws.Goals as goal

pub returns : goal.returns
returns c = record { one = one_eid; bytes = eid_is_bytes; read = eid_again; taken = eid_taken; faults = eid_faults; written = eid_spells }
