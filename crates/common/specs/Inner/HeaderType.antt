-- The types of chunks and their numbers: docs/FORMAT.md, C4 (Android's ResourceTypes.h, `RES_*_TYPE`).
--
--   header_type_of       the type that a number names; Unknown with the number where none does
--   header_type_number   the number of a type
--
-- Laws: proofs/Types.antt.
use Rattle.std.specs.Prelude.{ℕ, cond, eqb}
use Rattle.common.specs.declared.ResourceHeaderType.{ResourceHeaderType}
use Rattle.common.specs.declared.ResourceHeaderType.TheVariants.{Null, StringPool, Table, Xml}
use Rattle.common.specs.declared.ResourceHeaderType.TheVariants.{XmlStartNamespace, XmlEndNamespace, XmlStartElement, XmlEndElement, XmlCdata}
use Rattle.common.specs.declared.ResourceHeaderType.TheVariants.{XmlLastChunk, XmlResourceMap, TablePackage, TableType}
use Rattle.common.specs.declared.ResourceHeaderType.TheVariants.{TableTypeSpec, TableLibrary, TableOverlayable}
use Rattle.common.specs.declared.ResourceHeaderType.TheVariants.{TableOverlayablePolicy, TableStagedAlias, Unknown}

unfoldable pub header_type_of : ℕ → ResourceHeaderType
header_type_of n =
    cond (eqb n 0x0000) Null (
    cond (eqb n 0x0001) StringPool (
    cond (eqb n 0x0002) Table (
    cond (eqb n 0x0003) Xml (
    cond (eqb n 0x0100) XmlStartNamespace (
    cond (eqb n 0x0101) XmlEndNamespace (
    cond (eqb n 0x0102) XmlStartElement (
    cond (eqb n 0x0103) XmlEndElement (
    cond (eqb n 0x0104) XmlCdata (
    cond (eqb n 0x017f) XmlLastChunk (
    cond (eqb n 0x0180) XmlResourceMap (
    cond (eqb n 0x0200) TablePackage (
    cond (eqb n 0x0201) TableType (
    cond (eqb n 0x0202) TableTypeSpec (
    cond (eqb n 0x0203) TableLibrary (
    cond (eqb n 0x0204) TableOverlayable (
    cond (eqb n 0x0205) TableOverlayablePolicy (
    cond (eqb n 0x0206) TableStagedAlias (Unknown n))))))))))))))))))

unfoldable pub header_type_number : ResourceHeaderType → ℕ
header_type_number Null = 0x0000
header_type_number StringPool = 0x0001
header_type_number Table = 0x0002
header_type_number Xml = 0x0003
header_type_number XmlStartNamespace = 0x0100
header_type_number XmlEndNamespace = 0x0101
header_type_number XmlStartElement = 0x0102
header_type_number XmlEndElement = 0x0103
header_type_number XmlCdata = 0x0104
header_type_number XmlLastChunk = 0x017f
header_type_number XmlResourceMap = 0x0180
header_type_number TablePackage = 0x0200
header_type_number TableType = 0x0201
header_type_number TableTypeSpec = 0x0202
header_type_number TableLibrary = 0x0203
header_type_number TableOverlayable = 0x0204
header_type_number TableOverlayablePolicy = 0x0205
header_type_number TableStagedAlias = 0x0206
header_type_number (Unknown n) = n
