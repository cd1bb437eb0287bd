-- The number and the name of each kind of fault.
use Rattle.std.specs.Prelude.{ℕ, List, codes}
use Rattle.zim_fault.specs.declared.kinds.Kind.{Kind}
use Rattle.zim_fault.specs.declared.kinds.Kind.TheVariants.{BadByte, OpenString, IncludeDeep, Unsupported, Syntax, OpenStatement, Deep, UnknownName, Redeclared, ArgCount, VariableHere, NotLinear, NotConstraint, WrongKind, DivZero, NotInteger, NoEntry, Twice, EmptyChoice, StepZero, SetSize, BadTemplate, ShortLine, BadField, LongLine, LongFile, BoundsCross, CondReal, CondUnbounded, GuardUnbounded, Past, TooManyRows, TooManyColumns, CheckFailed}

-- the number of a kind, from 1
abbrev pub kind_number : Kind → ℕ
kind_number BadByte = 1
kind_number OpenString = 2
kind_number IncludeDeep = 3
kind_number (Unsupported _) = 4
kind_number Syntax = 5
kind_number OpenStatement = 6
kind_number Deep = 7
kind_number UnknownName = 8
kind_number Redeclared = 9
kind_number ArgCount = 10
kind_number VariableHere = 11
kind_number NotLinear = 12
kind_number NotConstraint = 13
kind_number WrongKind = 14
kind_number DivZero = 15
kind_number NotInteger = 16
kind_number NoEntry = 17
kind_number Twice = 18
kind_number EmptyChoice = 19
kind_number StepZero = 20
kind_number SetSize = 21
kind_number BadTemplate = 22
kind_number ShortLine = 23
kind_number BadField = 24
kind_number LongLine = 25
kind_number LongFile = 26
kind_number BoundsCross = 27
kind_number CondReal = 28
kind_number CondUnbounded = 29
kind_number GuardUnbounded = 30
kind_number Past = 31
kind_number TooManyRows = 32
kind_number TooManyColumns = 33
kind_number CheckFailed = 34

-- the name of a kind
abbrev pub kind_text : Kind → List ℕ
kind_text BadByte = codes "BadByte"
kind_text OpenString = codes "OpenString"
kind_text IncludeDeep = codes "IncludeDeep"
kind_text (Unsupported _) = codes "Unsupported"
kind_text Syntax = codes "Syntax"
kind_text OpenStatement = codes "OpenStatement"
kind_text Deep = codes "Deep"
kind_text UnknownName = codes "UnknownName"
kind_text Redeclared = codes "Redeclared"
kind_text ArgCount = codes "ArgCount"
kind_text VariableHere = codes "VariableHere"
kind_text NotLinear = codes "NotLinear"
kind_text NotConstraint = codes "NotConstraint"
kind_text WrongKind = codes "WrongKind"
kind_text DivZero = codes "DivZero"
kind_text NotInteger = codes "NotInteger"
kind_text NoEntry = codes "NoEntry"
kind_text Twice = codes "Twice"
kind_text EmptyChoice = codes "EmptyChoice"
kind_text StepZero = codes "StepZero"
kind_text SetSize = codes "SetSize"
kind_text BadTemplate = codes "BadTemplate"
kind_text ShortLine = codes "ShortLine"
kind_text BadField = codes "BadField"
kind_text LongLine = codes "LongLine"
kind_text LongFile = codes "LongFile"
kind_text BoundsCross = codes "BoundsCross"
kind_text CondReal = codes "CondReal"
kind_text CondUnbounded = codes "CondUnbounded"
kind_text GuardUnbounded = codes "GuardUnbounded"
kind_text Past = codes "Past"
kind_text TooManyRows = codes "TooManyRows"
kind_text TooManyColumns = codes "TooManyColumns"
kind_text CheckFailed = codes "CheckFailed"
