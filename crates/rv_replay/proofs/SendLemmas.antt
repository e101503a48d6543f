-- A digest of records may cross to the thread of its lane.
use denote.Param.Send.{IsSend, sendable}
use Rattle.std.proofs.Crossing.{crosses}
use Rattle.rv_model.specs.contracts.ghost_list.GhostList as GhostList
use Rattle.rv_model.specs.contracts.record.Record as Record
use Rattle.rv_report.proofs.digest.Digest.TheSendSync.{the_send as digest-send}
use Rattle.rv_replay.specs.contracts.digested.Digested as Digested

-- a list that only contracts see may
list-send : IsSend (GhostList.the_row Record.the_row)
list-send = record { owned = λ d vs x. ((λ _. (tt, ((λ _. (tt, tt)), tt)), tt), tt); leaving = λ k d w. tt }

-- so may a digest with its records
pub digested-send : IsSend Digested.the_row
digested-send = search (sendable, crosses, list-send, digest-send) depth 20
