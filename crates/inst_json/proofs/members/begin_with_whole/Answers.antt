use Rattle.std.proofs.lemmas.Result.{on_ok_weaker}
use Rattle.std.proofs.Common.{decimal}
use Rattle.inst_json.specs.Members.{first_member}
use Rattle.inst_json.proofs.Tables.{member_is}
use Rattle.inst_json.proofs.members.begin_with_whole.Goals as goal

pub returns : goal.returns
unfolding first_member
returns c =
    let member = member_is c.args.out.now.items c.args.name.now (decimal c.args.number) 123 c.in_ok-push_text.ensures c.in_ok-push_name.ensures in
    on_ok_weaker c.push_number.result member c.push_number.ensures
