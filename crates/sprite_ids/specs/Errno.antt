-- The number of each error.
use Rattle.std.specs.Prelude.{ℕ}
use Rattle.sprite_ids.specs.declared.errno.Errno.{Errno}
use Rattle.sprite_ids.specs.declared.errno.Errno.TheVariants.{NoEntry, Exists, NotDir, IsDir, NotEmpty, BadFd, BadMode, TooBig, TooMany, Invalid, XDev, Busy, NoChild, NoProcess, Interrupted, NoServer, Unreachable, BadHost, BadName, BadAddress}

-- what a program finds in its register 0
abbrev pub errno_number : Errno → ℕ
errno_number NoEntry = 1
errno_number Exists = 2
errno_number NotDir = 3
errno_number IsDir = 4
errno_number NotEmpty = 5
errno_number BadFd = 6
errno_number BadMode = 7
errno_number TooBig = 8
errno_number TooMany = 9
errno_number Invalid = 10
errno_number XDev = 11
errno_number Busy = 12
errno_number NoChild = 13
errno_number NoProcess = 14
errno_number Interrupted = 15
errno_number NoServer = 16
errno_number Unreachable = 17
errno_number BadHost = 18
errno_number BadName = 19
errno_number BadAddress = 20
