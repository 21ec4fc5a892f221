-- What types stand for.
use Rattle.dr_formats.specs.Compact as compact
use Rattle.dr_compact.specs.declared.thrift_type.ThriftType.{ThriftType}

abbrev pub type_view : ThriftType → compact.ThriftType
type_view ThriftType.True = compact.true_type
type_view ThriftType.False = compact.false_type
type_view ThriftType.Byte = compact.byte_type
type_view ThriftType.I16 = compact.i16_type
type_view ThriftType.I32 = compact.i32_type
type_view ThriftType.I64 = compact.i64_type
type_view ThriftType.Double = compact.double_type
type_view ThriftType.Binary = compact.binary_type
type_view ThriftType.List = compact.list_type
type_view ThriftType.Set = compact.set_type
type_view ThriftType.Map = compact.map_type
type_view ThriftType.Struct = compact.struct_type
