-- The refusals of the hub: the number and the name of each in replies, and the sentence that
-- explains it. The first fourteen are in the order in which a line and a command are checked. A
-- choice of this hub.
use Rattle.std.specs.Prelude.{◌≡◌, ◌⊎◌, ℕ, List, Result, Err, codes}
use Rattle.inst_base.specs.declared.fault.Fault.{Fault}
use Rattle.inst_base.specs.declared.fault.Fault.TheVariants.{NotJson, BadField, BadIdentifier}
use Rattle.inst_base.specs.declared.fault.Fault.TheVariants.{BadAmount, BadMoment}
use Rattle.inst_base.specs.declared.fault.Fault.TheVariants.{UnknownParticipant, SelfTransfer}
use Rattle.inst_base.specs.declared.fault.Fault.TheVariants.{UnknownTransfer}
use Rattle.inst_base.specs.declared.fault.Fault.TheVariants.{Duplicate, StampAhead, Expired, Full}
use Rattle.inst_base.specs.declared.fault.Fault.TheVariants.{Shortage, Memory}
use Rattle.inst_base.specs.declared.fault.Fault.TheVariants.{BadSettings, LineTooLong, ReadFault}
use Rattle.inst_base.specs.declared.fault.Fault.TheVariants.{WriteFault}

-- The number of a refusal.
abbrev pub number_of : Fault → ℕ
number_of NotJson = 1
number_of BadField = 2
number_of BadIdentifier = 3
number_of BadAmount = 4
number_of BadMoment = 5
number_of UnknownParticipant = 6
number_of SelfTransfer = 7
number_of UnknownTransfer = 8
number_of Duplicate = 9
number_of StampAhead = 10
number_of Expired = 11
number_of Full = 12
number_of Shortage = 13
number_of Memory = 14
number_of BadSettings = 15
number_of LineTooLong = 16
number_of ReadFault = 17
number_of WriteFault = 18

-- The name of a refusal, as text.
abbrev pub name_of : Fault → List ℕ
name_of NotJson = codes "NotJson"
name_of BadField = codes "BadField"
name_of BadIdentifier = codes "BadIdentifier"
name_of BadAmount = codes "BadAmount"
name_of BadMoment = codes "BadMoment"
name_of UnknownParticipant = codes "UnknownParticipant"
name_of SelfTransfer = codes "SelfTransfer"
name_of UnknownTransfer = codes "UnknownTransfer"
name_of Duplicate = codes "Duplicate"
name_of StampAhead = codes "StampAhead"
name_of Expired = codes "Expired"
name_of Full = codes "Full"
name_of Shortage = codes "Shortage"
name_of Memory = codes "Memory"
name_of BadSettings = codes "BadSettings"
name_of LineTooLong = codes "LineTooLong"
name_of ReadFault = codes "ReadFault"
name_of WriteFault = codes "WriteFault"

-- The explanation of a refusal.
abbrev pub meaning_of : Fault → List ℕ
meaning_of NotJson = codes "the line is not JSON"
meaning_of BadField =
    codes "the line is not an object, its command is unknown, or a field is missing or malformed"
meaning_of BadIdentifier =
    codes "an identifier or a reference isn't 1 to 35 characters of the basic Latin set"
meaning_of BadAmount = codes "the amount isn't from 1 cent to the ceiling"
meaning_of BadMoment =
    codes "a moment is outside the hub's range, or the deadline is after the last moment"
meaning_of UnknownParticipant = codes "no participant has the code"
meaning_of SelfTransfer = codes "a transfer may not go to its own originator"
meaning_of UnknownTransfer = codes "the asker has no such transfer"
meaning_of Duplicate = codes "the identifier or reference is taken with other contents"
meaning_of StampAhead = codes "the time stamp is too far ahead of the clock reading"
meaning_of Expired = codes "the clock reading is too late"
meaning_of Full = codes "all places or all fundings are used"
meaning_of Shortage = codes "the amount is above what is available"
meaning_of Memory = codes "an allocation failed"
meaning_of BadSettings = codes "the settings are outside their ranges"
meaning_of LineTooLong = codes "the line has more than 4,096 bytes"
meaning_of ReadFault = codes "reading the input failed, or it exceeded the limits of a run"
meaning_of WriteFault = codes "writing the output failed, or it took no byte"

-- The result is the wanted one or `Memory`. No condition says when it is `Memory`.
abbrev pub IsUnlessMemory : {X : Type 0} → Result X Fault → Result X Fault → Type 0
IsUnlessMemory returned wanted = (returned ≡ Err Memory) ⊎ (returned ≡ wanted)
