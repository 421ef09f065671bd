use Rattle.std.proofs.lemmas.Result.{on_ok_weaker}
use Rattle.json.specs.Print.{quoted}
use Rattle.inst_json.specs.Members.{next_member}
use Rattle.inst_json.proofs.Tables.{member_is}
use Rattle.inst_json.proofs.members.push_text_member.Goals as goal

pub returns : goal.returns
unfolding next_member
returns c =
    let member = member_is c.args.out.now.items c.args.name.now (quoted c.args.text.now) 44 c.in_ok-push_text.ensures c.in_ok-push_name.ensures in
    on_ok_weaker c.push_quoted.result member c.push_quoted.ensures
