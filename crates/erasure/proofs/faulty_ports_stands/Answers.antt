use Rattle.erasure.proofs.Faulty.{faulty_ports}
use Rattle.erasure.proofs.faulty_ports_stands.Goals as goal

pub returns : goal.returns
returns c = faulty_ports
