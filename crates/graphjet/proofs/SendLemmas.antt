-- The keeper over a file may go to another thread.
use denote.Param.Send.{IsSend, sendable}
use denote.RattleType.{RattleType}
use Rattle.gj_keep_sql.below.sqlite_std_file.specs.contracts.host.Host as Host
use Rattle.gj_keep_sql.below.sqlite_std_file.specs.contracts.host.HostCalls.TheImpl as calls
use Rattle.gj_keep_sql.below.sqlite_store.proofs.store.FileStore.TheSendSync as stores
use Rattle.gj_keep_sql.below.sqlite_store.specs.contracts.store.FileStoreStore.TheImpl as stored
use Rattle.gj_keep_sql.below.sqlite_store.specs.contracts.store.FileStore as FileStore
use Rattle.gj_keep_sql.below.sqlite_disk.proofs.modelled.Modelled.TheSendSync as files
use Rattle.gj_keep_sql.below.sqlite_disk.specs.contracts.modelled.Modelled as Modelled
use Rattle.gj_keep_sql.below.sqlite_disk.specs.contracts.modelled.ModelledDisk.TheImpl as disk
use Rattle.gj_keep_sql.below.sqlite_disk.specs.contracts.start.Unknown as Unknown
use Rattle.gj_keep_sql.below.sqlite_disk.specs.contracts.start.UnknownStart.TheImpl as start
use Rattle.gj_keep_sql.proofs.sql_keeper.SqlKeeper.TheSendSync as keepers
use Rattle.gj_keep_sql.specs.contracts.sql_keeper.SqlKeeper as SqlKeeper
use Rattle.gj_keep_sql.specs.contracts.file_keeper.FileKeeper as FileKeeper

abbrev file : RattleType
file = Modelled.the_row Host.the_row Unknown.the_row calls.ghosts start.ghosts

file_send : IsSend file
file_send = search (sendable, files.the_send) depth 20

abbrev store : RattleType
store = FileStore.the_row file (disk.ghosts Host.the_row Unknown.the_row calls.ghosts disk.no_dict start.ghosts disk.no_dict disk.no_dict)

store_send : IsSend store
store_send = search (sendable, stores.the_send, file_send) depth 20

abbrev keeper : RattleType
keeper = SqlKeeper.the_row store (stored.ghosts file (disk.ghosts Host.the_row Unknown.the_row calls.ghosts disk.no_dict start.ghosts disk.no_dict disk.no_dict) stored.no_dict)

keeper_send : IsSend keeper
keeper_send = search (sendable, keepers.the_send, store_send) depth 20

pub file_keeper_send : IsSend FileKeeper.the_row
file_keeper_send = search (sendable, keeper_send) depth 20
