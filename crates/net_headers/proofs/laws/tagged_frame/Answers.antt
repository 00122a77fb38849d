use Rattle.net_headers.proofs.Tagged.{headers_of_tagged}
use Rattle.net_headers.proofs.laws.tagged_frame.Goals as goal

pub returns : goal.returns
returns c = headers_of_tagged
