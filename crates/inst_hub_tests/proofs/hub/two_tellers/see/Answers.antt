use Rattle.inst_hub_tests.proofs.hub.two_tellers.see.Goals as goal

pub meet-requires : goal.meet-requires
meet-requires g c = record {
  of = (
    c.peek-before_meeting.ensures.of c.args.hub.now (c.peek-submitted.ensures.of c.args.hub.now c.submitted.ensures),
    c.peek-seen_second.ensures.of c.args.hub.now c.play.ensures.of,
  );
}
