use Rattle.inst_hub.proofs.CallUnderLock.{knows_twice, calls_of, left_after}
use Rattle.inst_hub.proofs.hub.Hub.call_with.Goals as goal

pub returns : goal.returns
returns g c =
    let t = c.args.teller.now in
    let u = c.ask-answer.new.teller in
    let v = c.follow.new.teller in
    record {
      of = c.follow.ensures.of;
      knows = knows_twice t u v c.ask-answer.ensures.knows c.follow.ensures.knows;
      call = calls_of c.args.self.now t u v c.args.ask.now c.ask-answer.result.0 c.ask-answer.result.1 c.ask-answer.ensures.call c.ask-answer.ensures.knows c.follow.ensures.knows c.follow.ensures.follows;
      left = left_after c.args.self.now t u v c.args.ask.now c.ask-answer.result.0 c.ask-answer.result.1 c.ask-answer.ensures.left c.ask-answer.ensures.none c.follow.ensures.follows;
    }
