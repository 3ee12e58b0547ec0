-- The number under which each refusal is written down; 19 is free.
use Rattle.std.specs.Prelude.{ℕ}
use Rattle.terms.specs.declared.refusal.Refusal.{Refusal}
use Rattle.terms.specs.declared.refusal.Refusal.TheVariants.{Horizon, Capacity, Tables, BadReference, BadWindow, PastHorizon, EmptyLoad, AboveCapacity, NoPossibleStart, BadField, BadLoad, OutOfTurn, ProfileLength, OtherMark, ProfileHorizon, NoImage, RowPlace, RowLoad, Shut, Standing, NotFirm, NotHeld, NoBookingPlace, DoesNotFit, NoBoundaryPlace, NoStart, StartExists, TooShort}

abbrev pub number_of : Refusal → ℕ
number_of Horizon = 1
number_of Capacity = 2
number_of Tables = 3
number_of BadReference = 4
number_of BadWindow = 5
number_of PastHorizon = 6
number_of EmptyLoad = 7
number_of AboveCapacity = 8
number_of NoPossibleStart = 9
number_of BadField = 10
number_of BadLoad = 11
number_of OutOfTurn = 12
number_of ProfileLength = 13
number_of OtherMark = 14
number_of ProfileHorizon = 15
number_of NoImage = 16
number_of RowPlace = 17
number_of RowLoad = 18
number_of Shut = 20
number_of Standing = 21
number_of NotFirm = 22
number_of NotHeld = 23
number_of NoBookingPlace = 24
number_of DoesNotFit = 25
number_of NoBoundaryPlace = 26
number_of (NoStart n) = 27
number_of StartExists = 28
number_of (TooShort n) = 29
