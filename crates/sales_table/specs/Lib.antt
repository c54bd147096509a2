pub mod Tables
pub mod Objects
pub mod Texts
pub mod TimedSales
pub mod SoldLists
