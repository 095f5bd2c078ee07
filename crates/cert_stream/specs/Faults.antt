-- A fault of reading, as feeding answers it.
use Rattle.cert_format.specs.declared.fault.CertFault.{CertFault}
use Rattle.cert_format.specs.declared.fault.CertFault.TheVariants as c
use Rattle.cert_stream.specs.declared.fault.FeedFault.{FeedFault}
use Rattle.cert_stream.specs.declared.fault.FeedFault.TheVariants as f

abbrev pub fault_as : CertFault → FeedFault
fault_as (c.At line kind) = f.At line kind
fault_as c.NoMemory = f.NoMemory
