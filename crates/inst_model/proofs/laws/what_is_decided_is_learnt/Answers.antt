use Rattle.inst_model.proofs.WhatIsLearntIsBooked.{learning_books, expiry_books, delivery_forwards, nothing_decided_is_delivered}
use Rattle.inst_model.proofs.AskerIsToldOutcome.{asking_tells}
use Rattle.inst_model.proofs.laws.what_is_decided_is_learnt.Goals as goal

pub returns : goal.returns
returns c = record {
  learnt = learning_books;
  expired = expiry_books;
  asked = asking_tells;
  delivered = delivery_forwards;
  undelivered = nothing_decided_is_delivered;
}
