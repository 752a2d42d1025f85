-- What whoever started a server or a client may do about its refusal, in a line.
use Rattle.std.specs.Prelude.{ℕ, ◌==◌, if◌then◌else◌, Bool, true, false, List, codes}
use Rattle.pres_faults.specs.declared.saved_fault.SavedFault.TheVariants as saved
use Rattle.pres_service.specs.declared.fault.ServiceFault.{ServiceFault}
use Rattle.pres_service.specs.declared.fault.ServiceFault.TheVariants as fault

-- what to do where a server's file failed, which another one has open or not
abbrev pub file_advice : Bool → List ℕ
file_advice true = codes "another server has the file open: stop it, or name another file"
file_advice false = codes "the file can't be opened or written, or it is no database: see its folder, its rights and the room on its disk"

-- what to do where a row of a server's file is bad: that of the checkpoint counts as row 0
abbrev pub row_advice : ℕ → List ℕ
row_advice k =
    if k == 0 then codes "the checkpoint of the file is damaged: restore a backup"
    else codes "a row of the file is bad: `presence check` says which; restore a copy"

-- what to do about the refusal of a server, whose file another one has open or not
abbrev pub server_advice : Bool → ServiceFault → List ℕ
server_advice in_use (fault.Store saved.Database) = file_advice in_use
server_advice in_use (fault.Store saved.NotOurs) = codes "the file is another program's database: name another file"
server_advice in_use (fault.Store (saved.BadRow k)) = row_advice k
server_advice in_use (fault.Store saved.Version) = codes "the file is of another version of this program: start that version, or name another file"
server_advice in_use (fault.Store saved.Memory) = codes "memory was refused: give it more"
server_advice in_use fault.Memory = codes "memory was refused: give it more"
server_advice in_use fault.Address = codes "the address is in use, or it is none of this machine: stop who listens there, or name another"
server_advice in_use fault.Input = codes "the output could not be written: see where it goes"
server_advice in_use (fault.Sock e) = codes "start it again"
server_advice in_use fault.Shut = codes "the file failed: see its disk, and start the server again"
server_advice in_use fault.Down = codes "memory was refused: give it more, and start the server again"

-- what to do about the refusal of a client
abbrev pub client_advice : ServiceFault → List ℕ
client_advice fault.Address = codes "no server can be reached there: see that it runs, and where it listens"
client_advice (fault.Sock e) = codes "the connection failed or was refused: see what the server says, and connect again"
client_advice fault.Input = codes "a line of the input is bad, or a stream failed: see docs/PROTOCOL.md for the lines"
client_advice fault.Memory = codes "memory was refused: give it more"
client_advice e = codes "start it again"
