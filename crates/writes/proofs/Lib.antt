pub mod Laying
