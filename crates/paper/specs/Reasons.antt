-- DEFINITIONS. The number of each reason to refuse.
use Rattle.std.specs.Prelude.{ℕ}
use Rattle.paper.specs.declared.Reason.{Reason}
use Rattle.paper.specs.declared.Reason.TheVariants.{BadSize, BadWeight, NoRoom, BadField, PortNotAbove, NameTwice, XTwice, BadEntry, Touching, NotBest, BadNumber, PortTooClose, BadTable, TooFewPorts, NoLayout, TooMany, PastCount, NoBufferRoom, TextTooLong, CsvTooLong, BadLine, NoPadRoom, NoWorkRoom}

abbrev pub number_of : Reason → ℕ
number_of BadSize = 1
number_of BadWeight = 2
number_of NoRoom = 3
number_of BadField = 4
number_of PortNotAbove = 5
number_of NameTwice = 6
number_of XTwice = 7
number_of BadEntry = 8
number_of Touching = 9
number_of NotBest = 10
number_of BadNumber = 11
number_of PortTooClose = 12
number_of BadTable = 13
number_of TooFewPorts = 14
number_of NoLayout = 15
number_of TooMany = 16
number_of PastCount = 17
number_of NoBufferRoom = 18
number_of TextTooLong = 19
number_of CsvTooLong = 20
number_of BadLine = 21
number_of NoPadRoom = 22
number_of NoWorkRoom = 24
