-- A lot's answer beside its slip, where the call failed.
use Rattle.std.proofs.Common.{Ok, Err, Option, Result}
use Rattle.std.specs.Result.{IsErrAnd}
use Rattle.inspection.specs.declared.refusal.Refusal.{Refusal}
use Rattle.runs.specs.declared.standing.Reply.{Reply}
use Rattle.line.specs.declared.slip.Slip.{Slip}
use Rattle.line.specs.Slips.{lot_answer, SlipGiven}

module _ (P : Refusal → Type 0) where
  pub lot_failed : (a : Result (Reply × Option Slip) Refusal) → IsErrAnd a P → IsErrAnd (lot_answer a) P
  lot_failed (Ok x) h = h
  lot_failed (Err e) h = h

  pub none_given : (a : Result (Reply × Option Slip) Refusal) → IsErrAnd a P → SlipGiven a
  none_given (Ok x) h = absurd h
  none_given (Err e) h = tt
