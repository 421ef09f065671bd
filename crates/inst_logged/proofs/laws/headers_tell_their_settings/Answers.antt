use Rattle.inst_logged.proofs.HeadersTellSettings.{all_headers_tell}
use Rattle.inst_logged.proofs.laws.headers_tell_their_settings.Goals as goal

pub returns : goal.returns
returns c = all_headers_tell
