-- Each test of what fits, in numbers.
use Rattle.std.proofs.Common.{◌≡◌, ◌↔◌, ℕ, ◌+◌, ◌<◌, ◌≤◌, Bool, true, ◌&&◌, nat_lt, nat_le, refl}
use Rattle.std.proofs.lemmas.Bool.{and_parts, and_from, leb-true, le-leb, ltb-true, lt-ltb}
use Rattle.inst_base.specs.Moment.{is_moment}
use Rattle.inst_base.specs.TimeLimit.{deadline_of}
use Rattle.inst_settings.specs.Settings.{HubSettings, participants, is_participant, is_within_ceiling}
use Rattle.inst_command.specs.declared.submission.Submission.{Submission}
use Rattle.inst_command.specs.Ask.{is_count, command_fits}
use Rattle.inst_command.specs.Fitting.{IsNumbered, MayMove, MayBeAskedFor, MayBeSubmitted, CommandsFit, StepsFit}

at_most : (a b : ℕ) → (nat_le a b ≡ true) ↔ (a ≤ b)
at_most a b = (leb-true a b, le-leb a b)

below : (a b : ℕ) → (nat_lt a b ≡ true) ↔ (a < b)
below a b = (ltb-true a b, lt-ltb a b)

both : (a b : Bool) (P Q : Type 0) → (a ≡ true) ↔ P → (b ≡ true) ↔ Q → ((a && b) ≡ true) ↔ (P × Q)
both a b P Q p q = (
  λ h. let parts = and_parts a b h in (p.0 parts.0, q.0 parts.1),
  λ h. and_from a b (p.1 h.0) (q.1 h.1),
)

numbered : (s : HubSettings) (number : ℕ) → (is_participant s number ≡ true) ↔ IsNumbered s number
numbered s number = below number (participants s)

moved : (s : HubSettings) (cents : ℕ) → (is_within_ceiling s cents ≡ true) ↔ MayMove s cents
moved s cents = both (nat_le 1 cents) (nat_le cents s.ceiling) (1 ≤ cents) (cents ≤ s.ceiling) (at_most 1 cents) (at_most cents s.ceiling)

asked_for : (count : ℕ) → (is_count count ≡ true) ↔ MayBeAskedFor count
asked_for count = both (nat_le 1 count) (nat_le count 100) (1 ≤ count) (count ≤ 100) (at_most 1 count) (at_most count 100)

submitted : (s : HubSettings) (x : Submission) →
    ((is_participant s x.to && is_within_ceiling s x.cents && is_moment (deadline_of s.limit x.stamp)) ≡ true) ↔ MayBeSubmitted s x
submitted s x =
    both (is_participant s x.to && is_within_ceiling s x.cents) (is_moment (deadline_of s.limit x.stamp))
    (IsNumbered s x.to × MayMove s x.cents) (x.stamp + s.limit ≤ 2199023255551)
    (both (is_participant s x.to) (is_within_ceiling s x.cents) (IsNumbered s x.to) (MayMove s x.cents) (numbered s x.to) (moved s x.cents))
    (at_most (x.stamp + s.limit) 2199023255551)

-- which commands fit
pub commands_fit : (s : HubSettings) → CommandsFit s
commands_fit s = record {
  fund = λ funding. moved s funding.cents;
  defund = λ funding. moved s funding.cents;
  submit = λ x. submitted s x;
  confirm = λ from id. numbered s from;
  reject = λ from id reason. numbered s from;
  investigate = λ id. refl;
  fetch = λ max. asked_for max;
  position = refl;
  statement = λ skip count. asked_for count;
}

-- which steps fit
pub steps_fit : (s : HubSettings) → StepsFit s
steps_fit s = record {
  ask = λ a. both (is_participant s a.who) (command_fits s a.command) (IsNumbered s a.who) (command_fits s a.command ≡ true)
      (numbered s a.who) (λ h. h, λ h. h);
  asked = λ a. refl;
  deliver = λ from index to. both (is_participant s from) (is_participant s to) (IsNumbered s from) (IsNumbered s to)
      (numbered s from) (numbered s to);
  learn = λ who from index. both (is_participant s who) (is_participant s from) (IsNumbered s who) (IsNumbered s from)
      (numbered s who) (numbered s from);
  expire = λ who index at. numbered s who;
}
