use Rattle.std.proofs.Common.{subst}
use Rattle.inst_logged.specs.Marking.{BeginsWithMarker}
use Rattle.inst_logged.specs.declared.version.Version.{Version}
use Rattle.inst_logged.proofs.hub.examining.examine.Goals as goal

pub examine_marked-requires-clause-begins : goal.examine_marked-requires-clause-begins
examine_marked-requires-clause-begins g c = subst (λ (v : Version). BeginsWithMarker v c.args.header.now c.args.marker.now) c.in-Two.is c.requires.begins
