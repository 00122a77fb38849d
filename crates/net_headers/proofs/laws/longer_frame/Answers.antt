use Rattle.net_headers.proofs.Longer.{headers_of-append}
use Rattle.net_headers.proofs.laws.longer_frame.Goals as goal

pub returns : goal.returns
returns c = headers_of-append
